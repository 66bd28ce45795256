use Rattle.std.proofs.Common.{◌<◌, ◌≤◌, nat_cmp, get_or, rules, Bor}
use Rattle.std.specs.Ordering.{is_le}
use Rattle.std.proofs.lemmas.List.Sorted.{IsPartitionPoint-from_clause}
use Rattle.druid_time.proofs.ExtentLemmas.{at_most, above}
use Rattle.druid_segment_id.specs.Group.{Group}
use Rattle.druid_timeline.proofs.SkylineLemmas.{parted_to, taken_borrowed, left_borrowed}
use Rattle.druid_timeline.proofs.skyline.first_ending_before.Goals as goal

pub returns-clause-before : goal.returns-clause-before
returns-clause-before c =
    let point = IsPartitionPoint-from_clause (λ (b : Bor Group). is_le (nat_cmp c.args.instant b.now.interval.end)) c.args.sky.now c.partition_point.result c.partition_point.ensures.partitioned (parted_to c.args.sky.now c.args.instant c.requires) (λ a r q k. search rules) in
    taken_borrowed (λ (g : Group). c.args.instant ≤ g.interval.end) c.args.sky.now c.partition_point.result c.partition_point.ensures.bound (λ k d low l. at_most c.args.instant (get_or c.args.sky.now k d).now.interval.end (point.0 k d low l))

pub returns-clause-rest : goal.returns-clause-rest
returns-clause-rest c =
    let point = IsPartitionPoint-from_clause (λ (b : Bor Group). is_le (nat_cmp c.args.instant b.now.interval.end)) c.args.sky.now c.partition_point.result c.partition_point.ensures.partitioned (parted_to c.args.sky.now c.args.instant c.requires) (λ a r q k. search rules) in
    left_borrowed (λ (g : Group). g.interval.end < c.args.instant) c.args.sky.now c.partition_point.result (λ k d low l. above c.args.instant (get_or c.args.sky.now k d).now.interval.end (point.1 k d low l))
