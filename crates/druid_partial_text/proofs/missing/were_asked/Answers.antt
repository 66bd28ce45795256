use Rattle.std.proofs.Common.{IsTrue, Contains, rules, arith, refl}
use Rattle.std.specs.BTreeSet.{contains}
use Rattle.druid_query.specs.PieceOrder.{piece_cmp}
use Rattle.druid_partial_text.proofs.MissedLemmas.{among_more, among_all}
use Rattle.druid_partial_text.proofs.missing.were_asked.Goals as goal

pub loop-piece-preserved : goal.loop-piece-preserved
loop-piece-preserved c =
    let found : IsTrue (contains piece_cmp c.in_ok-pieces.pieces c.of.result) = search rules in
    let in_it : Contains c.args.asked.now c.of.result = (c.in_ok-pieces.ensures c.of.result).0 found in
    among_more c.args.asked.now c.args.missing.now c.loop-piece.piece-index c.piece-item.result c.of.result (omega arith) c.piece-item.is c.of.ensures in_it c.loop-piece.invariant

pub returns : goal.returns
returns c = (λ t. among_all c.args.asked.now c.args.missing.now c.loop-piece.piece-index (omega arith) c.loop-piece.invariant, λ all. refl)
