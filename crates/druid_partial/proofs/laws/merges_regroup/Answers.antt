use Rattle.druid_partial.proofs.GroupLemmas as groups
use Rattle.druid_partial.proofs.laws.merges_regroup.Goals as goal

pub returns : goal.returns
returns c = groups.merges_regroup
