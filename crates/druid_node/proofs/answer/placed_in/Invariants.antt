use Rattle.std.proofs.Common.{All}
use Rattle.druid_node.specs.Placed.{IsWithin}
use Rattle.druid_node.proofs.AnswerLemmas.{PlacedSoFar}
use Rattle.druid_node.proofs.answer.placed_in.Given as goal

abbrev pub invariant-loop-slice : goal.invariant-loop-slice
invariant-loop-slice l = record {
  reported : PlacedSoFar l.held l.placed.items l.asked l.slice-index;
  within : All (IsWithin l.held) l.placed.items;
}
