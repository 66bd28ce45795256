use Rattle.druid_query_text.proofs.SubBackLemmas.{sub_back}
use Rattle.druid_query_text.proofs.laws.subqueries_are_read_back.Goals as goal

pub returns : goal.returns
returns c = sub_back
