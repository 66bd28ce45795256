use Rattle.druid_query_text.proofs.QueryBackLemmas.{query_back}
use Rattle.druid_query_text.proofs.laws.queries_are_read_back.Goals as goal

pub returns : goal.returns
returns c = query_back
