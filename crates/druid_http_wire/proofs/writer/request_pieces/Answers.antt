use Rattle.std.proofs.Common.{◌∙◌}
use Rattle.druid_http_wire.proofs.WriteLemmas.{request_joined}
use Rattle.druid_http_wire.proofs.writer.request_pieces.Goals as goal

pub returns : goal.returns
returns c =
    request_joined _ _ _ _ c.args.request.now (c.as_bytes.ensures.value ∙ c.as_str.ensures.value ∙ c.method.ensures) (c.as_bytes-2.ensures.value ∙ c.target.ensures) (c.as_bytes-3.ensures.value ∙ c.requires)
    c.body.ensures
