use Rattle.std.proofs.Common.{List}
use Rattle.druid_segment_descriptor.specs.Described.{Described}
use Rattle.druid_inventory.specs.Judged.{AreLast}
use Rattle.druid_inventory.proofs.MergeLemmas.{LoadedTo}
use Rattle.druid_inventory.proofs.merge.loads_of.Given as goal

abbrev pub invariant-loop-place : goal.invariant-loop-place
invariant-loop-place l = (segments : List Described) → AreLast l.changes l.last segments → LoadedTo l.changes l.last segments l.loads.items l.place-index
