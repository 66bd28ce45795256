use Rattle.std.proofs.Common.{ap, ◌++◌, decimal, ◌∙◌}
use Rattle.druid_stream.proofs.WriteLemmas.{any_err}
use Rattle.druid_http_wire.specs.Written.{joined, response_head}
use Rattle.druid_http_wire.proofs.WriteLemmas.{head_joined, both_written, first_fails, second_fails}
use Rattle.druid_http_wire.proofs.writer.write_response_text.Goals as goal

pub returns-in_err-write_pieces-clause-err : goal.returns-in_err-write_pieces-clause-err
returns-in_err-write_pieces-clause-err g c =
    any_err c.from_residual.result _ (first_fails _ (response_head c.args.status c.args.count) _ (joined c.args.body.now) _
    (ap (λ n. response_head c.args.status n ++ joined c.args.body.now) c.requires)
    (head_joined _ _ _ c.args.status c.args.count (c.as_bytes-code.ensures.value ∙ c.format.ensures.text ∙ ap decimal c.as_u16.ensures.value) c.phrase_of.ensures (c.as_bytes-digits.ensures.value ∙ c.format-2.ensures.text))
    _ c.in_err-write_pieces.ensures.err)

pub returns-clause-ok : goal.returns-clause-ok
returns-clause-ok g c =
    both_written _ (response_head c.args.status c.args.count) _ (joined c.args.body.now) _
    (ap (λ n. response_head c.args.status n ++ joined c.args.body.now) c.requires)
    (head_joined _ _ _ c.args.status c.args.count (c.as_bytes-code.ensures.value ∙ c.format.ensures.text ∙ ap decimal c.as_u16.ensures.value) c.phrase_of.ensures (c.as_bytes-digits.ensures.value ∙ c.format-2.ensures.text))
    c.write_pieces-2.result _ _ c.in_ok-write_pieces.ensures.ok c.write_pieces-2.ensures.ok

pub returns-clause-err : goal.returns-clause-err
returns-clause-err g c =
    second_fails _ (response_head c.args.status c.args.count) _ (joined c.args.body.now) _
    (ap (λ n. response_head c.args.status n ++ joined c.args.body.now) c.requires)
    (head_joined _ _ _ c.args.status c.args.count (c.as_bytes-code.ensures.value ∙ c.format.ensures.text ∙ ap decimal c.as_u16.ensures.value) c.phrase_of.ensures (c.as_bytes-digits.ensures.value ∙ c.format-2.ensures.text))
    c.write_pieces-2.result _ _ c.in_ok-write_pieces.ensures.ok c.write_pieces-2.ensures.err
