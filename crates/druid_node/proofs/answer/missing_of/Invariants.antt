use Rattle.druid_node.proofs.AnswerLemmas.{MissedSoFar}
use Rattle.druid_node.proofs.answer.missing_of.Given as goal

abbrev pub invariant-loop-piece : goal.invariant-loop-piece
invariant-loop-piece l = MissedSoFar l.held l.pieces.items l.asked l.piece-index
