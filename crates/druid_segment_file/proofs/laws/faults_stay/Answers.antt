use Rattle.druid_segment_file.proofs.FrontLemmas.{fault_stays}
use Rattle.druid_segment_file.proofs.laws.faults_stay.Goals as goal

pub returns : goal.returns
returns c = fault_stays
