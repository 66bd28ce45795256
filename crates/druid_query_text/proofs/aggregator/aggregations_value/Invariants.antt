use Rattle.std.proofs.Common.{◌≡◌, map, take}
use Rattle.serde_json.specs.View.{view}
use Rattle.druid_query.specs.Written.{aggregator_data}
use Rattle.druid_query_text.proofs.aggregator.aggregations_value.Given as goal

abbrev pub invariant-loop-aggregator : goal.invariant-loop-aggregator
invariant-loop-aggregator l = map view l.all.items ≡ map aggregator_data (take l.aggregator-index l.aggregators)
