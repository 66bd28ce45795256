use Rattle.druid_partial.proofs.GroupLemmas as groups
use Rattle.druid_partial.proofs.laws.one_result.Goals as goal

pub returns : goal.returns
returns c = groups.one_result
