use Rattle.std.proofs.Common.{◌-◌, List}
use Rattle.druid_segment_descriptor.specs.Described.{Described}
use Rattle.druid_segment_descriptor.proofs.PlaceLemmas.{IsLeft}
use Rattle.druid_inventory.specs.Judged.{AreLast}
use Rattle.druid_inventory.proofs.strict_changes.find_last.Given as goal

abbrev pub invariant-loop-low : goal.invariant-loop-low
invariant-loop-low l = (segments : List Described) → AreLast l.changes l.last segments → IsLeft segments l.id l.low l.high

abbrev pub decreases-loop-low : goal.decreases-loop-low
decreases-loop-low l = l.high - l.low
