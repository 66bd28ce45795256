use Rattle.druid_replay.proofs.PieceLemmas.{piece_some}
use Rattle.druid_stream.proofs.WriteLemmas.{begins, stops, any_err}
use Rattle.druid_replay.proofs.answer_writer.write_piece.Goals as goal

pub returns-in_err-text-clause-err : goal.returns-in_err-text-clause-err
returns-in_err-text-clause-err g c =
    any_err c.from_residual.result _ (stops _ _ _ _ (begins _ (g.W.Write.contents c.args.writer.now)) (piece_some c.args.later c.args.piece.now))
