use Rattle.serde_json.specs.View.{view}
use Rattle.druid_query_text.proofs.query.query_of.Goals as goal

pub to_owned_in-requires : goal.to_owned_in-requires
to_owned_in-requires c = (view c.args.value.now, c.in_ok-parts.ensures)
