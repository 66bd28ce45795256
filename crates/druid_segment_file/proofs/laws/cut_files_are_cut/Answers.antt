use Rattle.druid_segment_file.proofs.SegmentLemmas.{segment_cut, columns_cut}
use Rattle.druid_segment_file.proofs.laws.cut_files_are_cut.Goals as goal

pub returns-clause-rows : goal.returns-clause-rows
returns-clause-rows c = segment_cut

pub returns-clause-columns : goal.returns-clause-columns
returns-clause-columns c = columns_cut
