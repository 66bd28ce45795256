use Rattle.std.proofs.Common.{◌∙◌, map, ap, arith, take_all}
use Rattle.std.specs.List.{flat_map}
use Rattle.druid_partial_scan.specs.Rows.{counted_by}
use Rattle.druid_node.specs.Placed.{Placed}
use Rattle.druid_node.proofs.AnswerLemmas.{one_place}
use Rattle.druid_node.proofs.answer.slice_at.Goals as goal

pub returns : goal.returns
returns c = λ query.
    let segment = c.at.result.now in
    let pieces = c.args.pieces.now in
    let all = take_all c.loop-piece.piece-index pieces (let done = c.loop-piece-test.false in let end = c.loop-piece.auto.piece-index-end in omega arith) in
    ap (flat_map (counted_by query segment)) (c.loop-piece.invariant ∙ ap (map (λ (p : Placed). p.1)) all)
    ∙ one_place query c.args.held.now c.args.place segment pieces c.at.ensures c.requires.one
