use Rattle.druid_segment_text.proofs.JsonLemmas.{descriptor_at-data}
use Rattle.druid_segment_text.proofs.laws.descriptors_are_read_back.Goals as goal

pub returns : goal.returns
returns c d h = descriptor_at-data d h
