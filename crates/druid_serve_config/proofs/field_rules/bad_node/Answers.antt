use Rattle.serde_json.specs.View.{items_view}
use Rattle.druid_serve_config.proofs.BadLemmas.{item_there}
use Rattle.druid_serve_config.proofs.field_rules.bad_node.Goals as goal

pub returns-in-Some-clause-broken : goal.returns-in-Some-clause-broken
returns-in-Some-clause-broken c =
    c.in-Some.ensures.broken (items_view c.args.values.now) c.loop-place.place
    (item_there c.args.values.now c.loop-place.place c.index-values-place.result c.loop-place-test.true c.index-values-place.is)
