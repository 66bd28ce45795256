use Rattle.std.proofs.Common.{◌≡◌, flat_map, take}
use Rattle.druid_telemetry_metrics.specs.Families.{ended, turn_ends}
use Rattle.druid_telemetry_metrics.proofs.families.turns.Given as goal

abbrev pub invariant-loop-followed : goal.invariant-loop-followed
invariant-loop-followed l = l.samples.items ≡ flat_map (λ f. ended l.server f.node turn_ends f.turns) (take l.followed-index l.nodes)
