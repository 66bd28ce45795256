use Rattle.std.proofs.Common.{◌≡◌, ◌++◌, map}
use Rattle.std.specs.List.{zip}
use Rattle.druid_telemetry_metrics.specs.Families.{bucket}
use Rattle.druid_telemetry_metrics.proofs.families.buckets_of.Given as goal

abbrev pub invariant-loop-bound : goal.invariant-loop-bound
invariant-loop-bound l =
    l.buckets.items ++ map bucket (zip l.bound-iterator.a.rest.now l.bound-iterator.b.rest.now)
    ≡ map bucket (zip l.initial.bound-iterator.a.rest.now l.durations)
