use Rattle.std.proofs.Common.{◌≡◌, ◌∷◌, codes, map, take}
use Rattle.druid_telemetry_metrics.specs.Families.{label}
use Rattle.druid_telemetry_metrics.proofs.families.sample.Given as goal

abbrev pub invariant-loop-name : goal.invariant-loop-name
invariant-loop-name l = l.labels.items ≡ label (codes "server") l.server ∷ map (λ p. label p.0.now p.1.now) (take l.name-index l.others)
