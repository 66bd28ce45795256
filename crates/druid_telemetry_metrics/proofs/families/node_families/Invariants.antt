use Rattle.std.proofs.Common.{◌≡◌, map, take}
use Rattle.druid_telemetry_metrics.specs.Families.{single}
use Rattle.druid_telemetry_metrics.specs.declared.family.Kind.TheVariants.{Gauge}
use Rattle.druid_telemetry_metrics.proofs.families.node_families.Given as goal

abbrev pub invariant-loop-name : goal.invariant-loop-name
invariant-loop-name l =
    l.families.items ≡ map (λ r. single r.0.now r.1.now Gauge l.server r.2) (take l.name-index l.name-items)
