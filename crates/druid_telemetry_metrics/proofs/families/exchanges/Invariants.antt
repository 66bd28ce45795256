use Rattle.std.proofs.Common.{◌≡◌, flat_map, take}
use Rattle.druid_telemetry_metrics.specs.Families.{ended, exchange_ends}
use Rattle.druid_telemetry_metrics.proofs.families.exchanges.Given as goal

abbrev pub invariant-loop-followed : goal.invariant-loop-followed
invariant-loop-followed l = l.samples.items ≡ flat_map (λ f. ended l.server f.node exchange_ends f.exchanges) (take l.followed-index l.nodes)
