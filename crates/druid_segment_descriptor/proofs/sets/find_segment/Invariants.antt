use Rattle.std.proofs.Common.{◌-◌}
use Rattle.druid_segment_descriptor.proofs.PlaceLemmas.{IsLeft}
use Rattle.druid_segment_descriptor.proofs.sets.find_segment.Given as goal

abbrev pub invariant-loop-low : goal.invariant-loop-low
invariant-loop-low l = IsLeft l.segments l.id l.low l.high

abbrev pub decreases-loop-low : goal.decreases-loop-low
decreases-loop-low l = l.high - l.low
