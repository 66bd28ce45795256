use Rattle.std.proofs.Common.{◌≤◌, ◌+◌, ◌-◌, length}
use Rattle.std.specs.List.{AllWithin}
use Rattle.druid_segment_id.specs.Group.{Outranks}
use Rattle.druid_timeline.proofs.SkylineLemmas.{borrowed}
use Rattle.druid_timeline.proofs.skyline.first_better.Given as goal

abbrev pub invariant-loop-to : goal.invariant-loop-to
invariant-loop-to l = record {
  low : l.place ≤ l.to;
  high : l.to ≤ length l.sky;
  beaten : AllWithin (λ g. Outranks l.key g) (borrowed l.sky) l.place l.to;
  counted : l.fn.meter ≤ l.meter;
  bound : l.meter ≤ l.fn.meter + (l.to - l.place);
}

abbrev pub decreases-loop-to : goal.decreases-loop-to
decreases-loop-to l = length l.sky - l.to
