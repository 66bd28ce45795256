use Rattle.druid_time.proofs.ExtentLemmas.{AreParts-unique}
use Rattle.druid_time.proofs.laws.one_list_of_parts.Goals as goal

pub returns : goal.returns
returns c = AreParts-unique
