use Rattle.std.proofs.Common.{◌≡◌, ◌≤◌, take, All}
use Rattle.std.specs.Prelude.{slice_index_or}
use Rattle.druid_node.specs.Placed.{Placed}
use Rattle.druid_node.proofs.answer.run_of.Given as goal

abbrev pub invariant-loop-index : goal.invariant-loop-index
invariant-loop-index l = record {
  some : 1 ≤ l.index;
  one : (d : Placed) → All (λ (p : Placed). p.0 ≡ (slice_index_or l.pieces 0 d).0) (take l.index l.pieces);
}
