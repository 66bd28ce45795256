use Rattle.druid_stream.proofs.WriteLemmas.{goes_on, stops_inside, all_written, any_err}
use Rattle.druid_http_wire.proofs.WriteLemmas.{joined_more, joined_all}
use Rattle.druid_http_wire.proofs.writer.write_pieces.Goals as goal

pub returns-in_err-write_text-clause-err : goal.returns-in_err-write_text-clause-err
returns-in_err-write_text-clause-err g c =
    any_err c.from_residual.result _ (stops_inside _ _ _ _ _ _ _ c.loop-piece.invariant (joined_more c.args.pieces.now c.loop-piece.piece-index _ c.loop-piece-test.true) c.in_err-write_text.ensures.err)

pub loop-piece-preserved : goal.loop-piece-preserved
loop-piece-preserved g c =
    goes_on _ _ _ _ _ _ _ c.loop-piece.invariant (joined_more c.args.pieces.now c.loop-piece.piece-index _ c.loop-piece-test.true) c.in_ok-write_text.ensures.ok

pub returns-clause-ok : goal.returns-clause-ok
returns-clause-ok g c = all_written _ _ _ _ c.loop-piece.invariant (joined_all c.args.pieces.now c.loop-piece.piece-index c.loop-piece-test.false)
