use Rattle.druid_folder_incarnation.proofs.NumberFile.{one_number_lem}
use Rattle.druid_folder_incarnation.proofs.incarnation.one_number.Goals as goal

pub returns : goal.returns
returns c = one_number_lem
