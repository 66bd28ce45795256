use Rattle.druid_segment_file.proofs.SegmentLemmas.{one_spelling}
use Rattle.druid_segment_file.proofs.laws.one_column_spelling.Goals as goal

pub returns : goal.returns
returns c = one_spelling
