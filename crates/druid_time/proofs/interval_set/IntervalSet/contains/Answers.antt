use Rattle.std.proofs.Common.{rules, nat_cmp, sym, ap, ◌∙◌, length, ◌<◌, arith}
use Rattle.std.specs.Ordering.{is_le}
use Rattle.std.proofs.lemmas.Bool.{ltb-true}
use Rattle.std.proofs.lemmas.List.Sorted.{IsPartitionPoint-from_clause}
use Rattle.druid_time.specs.Extent.{Extent}
use Rattle.druid_time.proofs.ExtentLemmas.{ends_partitioned, AnyHas-first_past, AnyHas-none_beyond}
use Rattle.druid_time.proofs.interval_set.IntervalSet.contains.Goals as goal

pub returns-then-after-len : goal.returns-then-after-len
returns-then-after-len c =
    let point = IsPartitionPoint-from_clause (λ (e : Extent). is_le (nat_cmp e.end c.args.instant)) c.deref.result.now c.partition_point-after.result c.partition_point-after.ensures.partitioned (rw c.deref.ensures.value (ends_partitioned c.self.inside.parts.items c.args.instant c.self.invariant)) (λ a r q k. search rules) in
    let len = c.len.ensures ∙ sym c.deref.ensures.len ∙ ap length c.deref.ensures.value in
    let has = AnyHas-first_past c.self.inside.parts.items c.deref.result.now c.args.instant c.partition_point-after.result c.len.result c.index.result.now c.self.invariant c.deref.ensures.value point c.if-after-len.true len c.index.ensures in (
      λ t. rw (← c.self.view_is) (has.1 (c.contains.ensures.0 t)),
      λ h. c.contains.ensures.1 (has.0 (rw c.self.view_is h)),
    )

pub returns-else-after-len : goal.returns-else-after-len
returns-else-after-len c =
    let point = IsPartitionPoint-from_clause (λ (e : Extent). is_le (nat_cmp e.end c.args.instant)) c.deref.result.now c.partition_point-after.result c.partition_point-after.ensures.partitioned (rw c.deref.ensures.value (ends_partitioned c.self.inside.parts.items c.args.instant c.self.invariant)) (λ a r q k. search rules) in
    let len = c.len.ensures ∙ sym c.deref.ensures.len ∙ ap length c.deref.ensures.value in
    let none = AnyHas-none_beyond c.self.inside.parts.items c.deref.result.now c.args.instant c.partition_point-after.result c.len.result c.self.invariant c.deref.ensures.value point c.if-after-len.false len in (
      λ t. let below : c.partition_point-after.result < c.len.result = ltb-true _ _ t in absurd (omega arith),
      λ h. absurd (none (rw c.self.view_is h)),
    )
