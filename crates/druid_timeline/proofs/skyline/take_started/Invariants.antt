use Rattle.std.proofs.Common.{◌-◌, ◌+◌, ◌*◌, ◌≤◌, length, drop}
use Rattle.druid_timeline.specs.Skyline.{IsSkylineOf}
use Rattle.druid_timeline.proofs.SkylineLemmas.{borrowed}
use Rattle.druid_timeline.proofs.skyline.take_started.Given as goal

abbrev pub invariant-loop-place : goal.invariant-loop-place
invariant-loop-place l = record {
  split : IsSkylineOf (borrowed l.sorted) (drop l.place (borrowed l.sorted)) (borrowed l.sky.items) l.to;
  inside : l.place ≤ length l.sorted;
  low : l.fn.meter ≤ l.meter;
  high : l.meter + length l.sky.items + 3 * (length l.sorted - l.place) ≤ l.fn.meter + length l.fn.sky.items + 3 * (length l.sorted - l.start);
}

abbrev pub decreases-loop-place : goal.decreases-loop-place
decreases-loop-place l = length l.sorted - l.place
