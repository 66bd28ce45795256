use Rattle.std.proofs.Common.{◌≤◌}
use Rattle.std.specs.List.Sorted.{IsSorted, IsPermutation}
use Rattle.druid_timeline.specs.Overshadowed.{place_cmp}
use Rattle.druid_timeline.proofs.overshadowed.sorted_by_place.Given as goal

abbrev pub invariant-loop-key : goal.invariant-loop-key
invariant-loop-key l = record {
  same : IsPermutation l.yielded l.sorted.items;
  sorted : IsSorted place_cmp l.sorted.items;
  counted : l.fn.meter ≤ l.meter;
}
