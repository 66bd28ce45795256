use Rattle.std.proofs.Common.{◌≡◌, List}
use Rattle.std.specs.Prelude.{vec_len, vec_capacity}
use Rattle.druid_segment_descriptor.specs.Described.{Described}
use Rattle.druid_inventory.specs.Judged.{AreLast}
use Rattle.druid_inventory.proofs.MergeLemmas.{TakenTo}
use Rattle.druid_inventory.proofs.merge.take_out.Given as goal

abbrev pub invariant-loop-place : goal.invariant-loop-place
invariant-loop-place l = record {
  taken : (segments : List Described) → AreLast l.changes l.last segments → TakenTo l.initial.set.items l.set.items segments l.place-index l.kept l.gone;
  len : vec_len l.set ≡ vec_len l.initial.set;
  capacity : vec_capacity l.set ≡ vec_capacity l.initial.set;
}
