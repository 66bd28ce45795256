use Rattle.druid_query.proofs.BackLemmas.{filter_back}
use Rattle.druid_query_text.proofs.laws.filters_are_read_back.Goals as goal

pub returns : goal.returns
returns c = filter_back
