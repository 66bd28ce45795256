use Rattle.std.proofs.Common.{◌≡◌, ◌++◌, map}
use Rattle.druid_telemetry_metrics.specs.Families.{ended}
use Rattle.druid_telemetry_metrics.proofs.families.push_ended.Given as goal

abbrev pub invariant-loop-end : goal.invariant-loop-end
invariant-loop-end l =
    l.samples.items ++ ended l.server l.node (map (λ end. end.now) l.end-iterator.a.rest.now) l.end-iterator.b.rest.now
    ≡ l.initial.samples.items ++ ended l.server l.node (map (λ end. end.now) l.ends) l.counts
