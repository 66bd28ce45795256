use Rattle.std.proofs.Common.{◌≤◌, ◌+◌, ◌*◌, ◌-◌, length, drop}
use Rattle.druid_timeline.specs.Candidates.{IsBestOf}
use Rattle.druid_timeline.specs.Skyline.{IsSkylineOf}
use Rattle.druid_timeline.proofs.SkylineLemmas.{borrowed}
use Rattle.druid_timeline.proofs.SweepLemmas.{IsSwept}
use Rattle.druid_timeline.proofs.sweep.add_best.Given as goal

abbrev pub invariant-loop-from : goal.invariant-loop-from
invariant-loop-from l = record {
  swept : IsSwept l.fn.part (IsBestOf (borrowed l.sorted)) l.fn.runs.items l.runs.items l.from;
  split : IsSkylineOf (borrowed l.sorted) (drop l.place (borrowed l.sorted)) (borrowed l.sky.items) l.from;
  inside : l.place ≤ length l.sorted;
  low : l.fn.meter ≤ l.meter;
  high : l.meter + length l.sky.items + 3 * (length l.sorted - l.place) ≤ l.fn.meter + 3 * length l.sorted;
}

abbrev pub decreases-loop-from : goal.decreases-loop-from
decreases-loop-from l = l.stop - l.from
