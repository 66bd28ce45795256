use Rattle.druid_partial.proofs.GroupLemmas as groups
use Rattle.druid_partial.proofs.laws.no_rows_change_nothing.Goals as goal

pub returns : goal.returns
returns c = groups.merge_with_nothing
