use Rattle.std.proofs.Common.{rules}
use Rattle.druid_telemetry_metrics.proofs.FamilyLemmas.{zip_ended}
use Rattle.druid_telemetry_metrics.proofs.families.buckets_of.Goals as goal

pub returns : goal.returns
returns c = search (rules, zip_ended c.loop-bound.bound-iterator.a.rest.now c.loop-bound.bound-iterator.b.rest.now c.in-None.ensures.steps, c.loop-bound.invariant)
