use Rattle.std.proofs.Common.{◌≡◌, map, take, min, ◌*◌, ◌-◌, ◌^◌}
use Rattle.druid_telemetry_metrics.specs.Families.{followed_sample}
use Rattle.druid_telemetry_metrics.specs.declared.family.Number.TheVariants.{Micros}
use Rattle.druid_telemetry_metrics.proofs.families.heard.Given as goal

abbrev pub invariant-loop-followed : goal.invariant-loop-followed
invariant-loop-followed l = l.samples.items ≡ map (followed_sample l.server (λ f. Micros (min (1000 * f.heard) (2 ^ 64 - 1)))) (take l.followed-index l.nodes)
