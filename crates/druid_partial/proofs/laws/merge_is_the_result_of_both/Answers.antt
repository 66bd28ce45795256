use Rattle.druid_partial.proofs.GroupLemmas as groups
use Rattle.druid_partial.proofs.laws.merge_is_the_result_of_both.Goals as goal

pub returns : goal.returns
returns c = groups.merge_of_results
