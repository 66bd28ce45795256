use Rattle.std.proofs.Common.{ap, sym, arith, ◌∙◌}
use Rattle.druid_stream.proofs.WriteLemmas.{err_more}
use Rattle.druid_http_wire.specs.Written.{joined, response_text}
use Rattle.druid_http_wire.proofs.WriteLemmas.{answer_long, front_as}
use Rattle.druid_http_wire.proofs.writer.write_body.Goals as goal

pub returns-clause-err : goal.returns-clause-err
returns-clause-err g c =
    err_more c.write_whole-2.result _ _
    (front_as _ _ _ _ (answer_long c.args.status (joined c.args.body.now) (omega (arith, c.requires, c.if-count-le-MAX_BODY.false)) ∙ ap (response_text 500) (sym c.error_pieces-refusal.ensures)))
    c.write_whole-2.ensures.err
