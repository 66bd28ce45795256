use Rattle.std.proofs.Common.{◌≡◌, map, take}
use Rattle.druid_telemetry_metrics.specs.Families.{followed_sample}
use Rattle.druid_telemetry_metrics.specs.declared.family.Number.TheVariants.{Whole}
use Rattle.druid_telemetry_metrics.proofs.families.changes.Given as goal

abbrev pub invariant-loop-followed : goal.invariant-loop-followed
invariant-loop-followed l = l.samples.items ≡ map (followed_sample l.server (λ f. Whole f.changes)) (take l.followed-index l.nodes)
