use Rattle.druid_segment_file.proofs.SegmentLemmas.{segment_trails, columns_trail}
use Rattle.druid_segment_file.proofs.laws.longer_files_have_trailing_bytes.Goals as goal

pub returns-clause-rows : goal.returns-clause-rows
returns-clause-rows c = segment_trails

pub returns-clause-columns : goal.returns-clause-columns
returns-clause-columns c = columns_trail
