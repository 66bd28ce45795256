use Rattle.std.proofs.Common.{◌≤◌, ◌-◌}
use Rattle.druid_timeline.proofs.PlaceLemmas.{IsBetween}
use Rattle.druid_timeline.proofs.overshadowed.place_among.Given as goal

abbrev pub invariant-loop-low : goal.invariant-loop-low
invariant-loop-low l = record {
  between : IsBetween l.sorted l.key l.low l.high;
  counted : l.fn.meter ≤ l.meter;
}

abbrev pub decreases-loop-low : goal.decreases-loop-low
decreases-loop-low l = l.high - l.low
