use Rattle.std.proofs.Common.{length, ◌-◌, ◌≤◌}
use Rattle.druid_partial_scan.proofs.texts.place_from.Given as goal

abbrev pub invariant-loop-low : goal.invariant-loop-low
invariant-loop-low l = 1 ≤ l.step

abbrev pub decreases-loop-low : goal.decreases-loop-low
decreases-loop-low l = length l.texts - l.low

abbrev pub invariant-loop-low-2 : goal.invariant-loop-low-2
invariant-loop-low-2 l = l.high ≤ length l.texts

abbrev pub decreases-loop-low-2 : goal.decreases-loop-low-2
decreases-loop-low-2 l = l.high - l.low
