use Rattle.druid_segment_file.proofs.SegmentLemmas.{segment_again, columns_again}
use Rattle.druid_segment_file.proofs.laws.spellings_are_read_back.Goals as goal

pub returns-clause-rows : goal.returns-clause-rows
returns-clause-rows c = segment_again

pub returns-clause-columns : goal.returns-clause-columns
returns-clause-columns c = columns_again
