use Rattle.std.proofs.Common.{rules, nat_lt}
use Rattle.std.proofs.lemmas.List.Sorted.{IsPartitionPoint-from_clause, IsPartitionedBy-ltb}
use Rattle.druid_timeline.proofs.HalfLemmas.{ends_rise, taken_lt, left_lt}
use Rattle.druid_timeline.proofs.SweepLemmas.{Run}
use Rattle.druid_timeline.proofs.edit.first_to.Goals as goal

pub returns-clause-before : goal.returns-clause-before
returns-clause-before c =
    let point = IsPartitionPoint-from_clause (λ (r : Run). nat_lt r.0.end c.args.instant) c.args.runs.now c.partition_point.result c.partition_point.ensures.partitioned (IsPartitionedBy-ltb (λ (r : Run). r.0.end) c.args.runs.now c.args.instant (ends_rise c.args.runs.now c.requires)) (λ a r q k. search rules) in
    taken_lt (λ (r : Run). r.0.end) c.args.runs.now c.args.instant c.partition_point.result c.partition_point.ensures.bound point

pub returns-clause-rest : goal.returns-clause-rest
returns-clause-rest c =
    let point = IsPartitionPoint-from_clause (λ (r : Run). nat_lt r.0.end c.args.instant) c.args.runs.now c.partition_point.result c.partition_point.ensures.partitioned (IsPartitionedBy-ltb (λ (r : Run). r.0.end) c.args.runs.now c.args.instant (ends_rise c.args.runs.now c.requires)) (λ a r q k. search rules) in
    left_lt (λ (r : Run). r.0.end) c.args.runs.now c.args.instant c.partition_point.result point
