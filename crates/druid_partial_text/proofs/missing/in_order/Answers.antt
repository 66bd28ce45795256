use Rattle.std.proofs.Common.{arith}
use Rattle.std.specs.BTreeSet.{contains}
use Rattle.druid_query.specs.PieceOrder.{piece_cmp}
use Rattle.druid_partial_text.proofs.MissedLemmas.{piece_more}
use Rattle.druid_partial_text.proofs.missing.in_order.Goals as goal

pub loop-piece-preserved : goal.loop-piece-preserved
loop-piece-preserved c = λ a.
    piece_more c.args.asked.now c.loop-piece.piece-index c.piece-item.result c.of.result a (contains piece_cmp c.loop-piece.pieces a) _ (omega arith) c.piece-item.is c.of.ensures
    (c.in_ok-insert.ensures.updates.0 a) (c.loop-piece.invariant a)
