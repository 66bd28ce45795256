use Rattle.serde_json.specs.View.{view}
use Rattle.druid_query_text.proofs.SubLemmas.{before_ok}
use Rattle.druid_query_text.proofs.SubBackLemmas.{sub_query}
use Rattle.druid_query_text.proofs.subquery.subquery_of.Goals as goal

pub to_owned_in-requires : goal.to_owned_in-requires
to_owned_in-requires c = sub_query (view c.args.value.now) c.in_ok-parts.parts c.in_ok-parts.ensures

pub returns-in-Err : goal.returns-in-Err
returns-in-Err c = before_ok (view c.args.value.now) c.in_ok-parts.parts c.in_ok-parts.ensures
