use Rattle.druid_segment_id.proofs.IdentifierLemmas.{identifier_text_injective}
use Rattle.druid_segment_id.proofs.laws.one_text.Goals as goal

pub returns : goal.returns
returns c = identifier_text_injective
