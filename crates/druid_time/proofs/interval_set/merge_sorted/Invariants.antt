use Rattle.druid_time.proofs.MergeLemmas.{IsMerged}
use Rattle.druid_time.proofs.interval_set.merge_sorted.Given as goal

abbrev pub invariant-loop-next : goal.invariant-loop-next
invariant-loop-next l = IsMerged l.initial.last l.rest l.next-index l.done.items l.last
