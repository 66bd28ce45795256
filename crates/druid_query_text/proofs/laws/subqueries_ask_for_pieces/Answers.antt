use Rattle.druid_query_text.proofs.SubBackLemmas.{sub_query}
use Rattle.druid_query_text.proofs.SubReportLemmas.{sub_asked}
use Rattle.druid_query_text.proofs.laws.subqueries_ask_for_pieces.Goals as goal

pub returns-clause-query : goal.returns-clause-query
returns-clause-query c = sub_query

pub returns-clause-asked : goal.returns-clause-asked
returns-clause-asked c = sub_asked
