use Rattle.druid_segment_id.proofs.SpelledLemmas.{read_is_spelled}
use Rattle.druid_segment_id.proofs.laws.identifiers_are_read_back.Goals as goal

pub returns : goal.returns
returns c = read_is_spelled
