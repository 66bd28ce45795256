use Rattle.std.proofs.Common.{◌∙◌, ap}
use Rattle.druid_segment_id.specs.Identifier.{Identifier}
use Rattle.druid_segment_id.proofs.IdentifierLemmas.{identifier_text-sources}
use Rattle.druid_segment_id.proofs.identifier.SegmentId.cmp_by_text.Goals as goal

pub returns-in_default-clause-value : goal.returns-in_default-clause-value
returns-in_default-clause-value c =
    let mine = c.as_bytes-mine.ensures.value ∙ c.as_str.ensures.value ∙ ap (λ (id : Identifier). id.source) c.self.view_is in
    let theirs = c.as_bytes-theirs.ensures.value ∙ c.as_str-2.ensures.value ∙ ap (λ (id : Identifier). id.source) c.other.view_is in
    identifier_text-sources c.args.self.now c.args.other.now c.min-common.result c.as_bytes-mine.result.now c.as_bytes-theirs.result.now c.cmp-2.result
    mine theirs c.min-common.ensures c.cmp-2.ensures c.in_default.not-Equal
