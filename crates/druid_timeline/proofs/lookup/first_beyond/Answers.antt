use Rattle.std.proofs.Common.{rules, nat_cmp}
use Rattle.std.specs.Ordering.{is_le}
use Rattle.std.proofs.lemmas.List.Sorted.{IsPartitionPoint-from_clause}
use Rattle.druid_timeline.proofs.HalfLemmas.{parted_le, ends_rise, taken_le, left_le}
use Rattle.druid_timeline.proofs.SweepLemmas.{Run}
use Rattle.druid_timeline.proofs.lookup.first_beyond.Goals as goal

pub returns-clause-before : goal.returns-clause-before
returns-clause-before c =
    let point = IsPartitionPoint-from_clause (λ (r : Run). is_le (nat_cmp r.0.end c.args.instant)) c.args.runs.now c.partition_point.result c.partition_point.ensures.partitioned (parted_le (λ (r : Run). r.0.end) c.args.runs.now c.args.instant (ends_rise c.args.runs.now c.requires)) (λ a r q k. search rules) in
    taken_le (λ (r : Run). r.0.end) c.args.runs.now c.args.instant c.partition_point.result c.partition_point.ensures.bound point

pub returns-clause-rest : goal.returns-clause-rest
returns-clause-rest c =
    let point = IsPartitionPoint-from_clause (λ (r : Run). is_le (nat_cmp r.0.end c.args.instant)) c.args.runs.now c.partition_point.result c.partition_point.ensures.partitioned (parted_le (λ (r : Run). r.0.end) c.args.runs.now c.args.instant (ends_rise c.args.runs.now c.requires)) (λ a r q k. search rules) in
    left_le (λ (r : Run). r.0.end) c.args.runs.now c.args.instant c.partition_point.result point
