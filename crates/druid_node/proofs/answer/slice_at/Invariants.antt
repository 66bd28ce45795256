use Rattle.std.proofs.Common.{◌≡◌, map, take}
use Rattle.druid_node.specs.Placed.{Placed}
use Rattle.druid_node.proofs.answer.slice_at.Given as goal

abbrev pub invariant-loop-piece : goal.invariant-loop-piece
invariant-loop-piece l = l.intervals.items ≡ map (λ (p : Placed). p.1) (take l.piece-index l.pieces)
