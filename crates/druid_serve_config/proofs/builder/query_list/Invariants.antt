use Rattle.std.proofs.Common.{◌≡◌, map, drop}
use Rattle.serde_json.specs.View.{items_view}
use Rattle.druid_base.specs.Each.{each_of}
use Rattle.druid_serve_config.specs.Configs.{query_at, asked_of}
use Rattle.druid_base.proofs.EachLemmas.{with_front}
use Rattle.druid_serve_config.proofs.builder.query_list.Given as goal

abbrev pub invariant-loop-value : goal.invariant-loop-value
invariant-loop-value l = with_front (map asked_of l.queries.items) (each_of (query_at l.brokers) (items_view (drop l.value-index l.values))) ≡ each_of (query_at l.brokers) (items_view l.values)
