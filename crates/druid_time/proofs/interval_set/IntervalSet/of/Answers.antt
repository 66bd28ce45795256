use Rattle.std.proofs.Common.{rules}
use Rattle.std.proofs.lemmas.List.Sorted.{IsNonDecreasingBy-from_sort_by_key}
use Rattle.druid_time.specs.Extent.{Extent}
use Rattle.druid_time.proofs.ExtentLemmas.{SameInstants-sorted}
use Rattle.druid_time.proofs.interval_set.IntervalSet.of.Goals as goal

pub merge_sorted-requires : goal.merge_sorted-requires
merge_sorted-requires c =
    rw c.deref.ensures.value
    (IsNonDecreasingBy-from_sort_by_key (λ (e : Extent). e.start) _ c.sort_unstable_by_key.ensures.sorted (λ a r q k. search rules))

pub returns-clause-instants : goal.returns-clause-instants
returns-clause-instants c =
    SameInstants-sorted c.args.intervals.now c.in_ok-sorted.sorted.items c.sort_unstable_by_key.new.self.items c.deref.result.now c.in_ok-parts.parts.items c.in_ok-sorted.ensures.items c.sort_unstable_by_key.ensures.permutation c.deref.ensures.value c.in_ok-parts.ensures.instants
