use Rattle.std.proofs.Common.{rules, List, ℕ, Bor}
use Rattle.druid_telemetry_metrics.proofs.FamilyLemmas.{zip_map_ended}
use Rattle.druid_telemetry_metrics.proofs.families.push_ended.Goals as goal

pub returns : goal.returns
returns c = search (rules, zip_map_ended (λ (end : Bor (List ℕ)). end.now) c.loop-end.end-iterator.a.rest.now c.loop-end.end-iterator.b.rest.now c.in-None.ensures.steps, c.loop-end.invariant)
