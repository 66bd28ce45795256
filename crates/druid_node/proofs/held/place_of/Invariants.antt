use Rattle.std.proofs.Common.{◌-◌, map}
use Rattle.std.specs.Arc.{arc_value}
use Rattle.druid_segment_descriptor.proofs.PlaceLemmas.{IsLeft}
use Rattle.druid_node.specs.State.{descriptors_of}
use Rattle.druid_node.proofs.held.place_of.Given as goal

abbrev pub invariant-loop-low : goal.invariant-loop-low
invariant-loop-low l = IsLeft (descriptors_of (map arc_value l.segments)) l.id l.low l.high

abbrev pub decreases-loop-low : goal.decreases-loop-low
decreases-loop-low l = l.high - l.low
