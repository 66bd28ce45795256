use Rattle.druid_segment_file.proofs.LengthLemmas.{length_spelling}
use Rattle.druid_segment_file.proofs.laws.lengths_agree.Goals as goal

pub returns : goal.returns
returns c = length_spelling
