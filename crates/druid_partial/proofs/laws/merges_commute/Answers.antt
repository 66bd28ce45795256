use Rattle.druid_partial.proofs.GroupLemmas as groups
use Rattle.druid_partial.proofs.laws.merges_commute.Goals as goal

pub returns : goal.returns
returns c = groups.result_swap
