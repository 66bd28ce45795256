use Rattle.serde_json.specs.View.{view}
use Rattle.druid_query_text.proofs.EmptyLemmas.{empty_object}
use Rattle.druid_query_text.proofs.fields.is_empty.Goals as goal

pub returns-in-Some-as_object : goal.returns-in-Some-as_object
returns-in-Some-as_object c =
    empty_object (view c.args.value.now) c.in-Some-as_object.members.now.entries c.is_empty-in-Some-as_object.result c.in-Some-as_object.ensures c.is_empty-in-Some-as_object.ensures
