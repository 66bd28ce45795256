use Rattle.std.proofs.Common.{◌≡◌, drop}
use Rattle.serde_json.specs.View.{items_view}
use Rattle.druid_base.specs.Each.{each_of}
use Rattle.druid_serve_config.specs.Configs.{broker_at}
use Rattle.druid_base.proofs.EachLemmas.{with_front}
use Rattle.druid_serve_config.proofs.builder.broker_list.Given as goal

abbrev pub invariant-loop-value : goal.invariant-loop-value
invariant-loop-value l = with_front l.brokers.items (each_of (broker_at l.network) (items_view (drop l.value-index l.values))) ≡ each_of (broker_at l.network) (items_view l.values)
