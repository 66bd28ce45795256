use Rattle.std.proofs.Common.{◌+◌, nat_lt, [], drop, codes, ◌++◌}
use Rattle.druid_replay.specs.Answers.{line_text, piece_data}
use Rattle.serde_json.specs.Written.{compact_text, comma_if}
use Rattle.druid_replay.specs.declared.answer.CommandAnswer.TheVariants.{Found}
use Rattle.druid_replay.proofs.PieceLemmas.{rest_of, found_line, piece_next, piece_last}
use Rattle.druid_stream.proofs.WriteLemmas.{begins, goes_on, stops_inside, any_err, err_more}
use Rattle.druid_replay.proofs.answer_writer.write_pieces.Goals as goal

pub returns-in_err-write_text-clause-err : goal.returns-in_err-write_text-clause-err
returns-in_err-write_text-clause-err g c =
    let ps = c.args.pieces.now in
    any_err c.from_residual.result _ (stops_inside (line_text (Found ps)) (line_text (Found ps)) (codes "{\"pieces\":[") (rest_of (nat_lt 0 0) ps) _ _ _ (begins (line_text (Found ps)) (g.W.Write.contents c.args.writer.now)) (found_line ps) c.in_err-write_text.ensures.err)

pub loop-i-init : goal.loop-i-init
loop-i-init g c =
    let ps = c.args.pieces.now in
    goes_on (line_text (Found ps)) (line_text (Found ps)) (codes "{\"pieces\":[") (rest_of (nat_lt 0 0) ps) _ _ _ (begins (line_text (Found ps)) (g.W.Write.contents c.args.writer.now)) (found_line ps) c.in_ok-write_text.ensures.ok

pub returns-in_err-write_piece-clause-err : goal.returns-in_err-write_piece-clause-err
returns-in_err-write_piece-clause-err g c =
    let ps = c.args.pieces.now in
    any_err c.from_residual-in_err-write_piece.result _ (stops_inside (line_text (Found ps)) (rest_of (nat_lt 0 c.loop-i.i) (drop c.loop-i.i ps)) (comma_if (nat_lt 0 c.loop-i.i) ++ compact_text (piece_data c.index-pieces-i.result)) (rest_of (nat_lt 0 (c.loop-i.i + 1)) (drop (c.loop-i.i + 1) ps)) _ _ _ c.loop-i.invariant (piece_next (nat_lt 0 c.loop-i.i) ps c.loop-i.i c.index-pieces-i.result c.loop-i-test.true c.index-pieces-i.is) c.in_err-write_piece.ensures.err)

pub loop-i-preserved : goal.loop-i-preserved
loop-i-preserved g c =
    let ps = c.args.pieces.now in
    goes_on (line_text (Found ps)) (rest_of (nat_lt 0 c.loop-i.i) (drop c.loop-i.i ps)) (comma_if (nat_lt 0 c.loop-i.i) ++ compact_text (piece_data c.index-pieces-i.result)) (rest_of (nat_lt 0 (c.loop-i.i + 1)) (drop (c.loop-i.i + 1) ps)) _ _ _ c.loop-i.invariant (piece_next (nat_lt 0 c.loop-i.i) ps c.loop-i.i c.index-pieces-i.result c.loop-i-test.true c.index-pieces-i.is) c.in_ok-write_piece.ensures.ok

pub returns-clause-err : goal.returns-clause-err
returns-clause-err g c =
    let ps = c.args.pieces.now in
    err_more c.write_text-2.result _ _ (λ f. stops_inside (line_text (Found ps)) (rest_of (nat_lt 0 c.loop-i.i) (drop c.loop-i.i ps)) (codes "]}\n") [] _ _ _ c.loop-i.invariant (piece_last (nat_lt 0 c.loop-i.i) ps c.loop-i.i c.loop-i-test.false) f) c.write_text-2.ensures.err
