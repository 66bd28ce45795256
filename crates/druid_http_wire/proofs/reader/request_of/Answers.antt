use Rattle.std.proofs.Common.{ap, ◌∙◌, Err}
use Rattle.druid_http_wire.proofs.MessageLemmas.{method_token}
use Rattle.druid_http_wire.proofs.reader.request_of.Goals as goal

pub unreachable-requires : goal.unreachable-requires
unreachable-requires c =
    c.in-Err-Invalid.ensures.invalid.0 (ap Err c.in-Err-Invalid.field-0-is)
    (method_token _ _ (c.of.ensures ∙ c.requires.method) c.requires.reads.reads.0.method)
