use Rattle.druid_inventory.proofs.MergeLemmas.{PutTo}
use Rattle.druid_inventory.proofs.merge.put_in.Given as goal

abbrev pub invariant-loop-left : goal.invariant-loop-left
invariant-loop-left l = PutTo l.fn.set.items l.set.items l.fn.loads.items l.end l.left

abbrev pub decreases-loop-left : goal.decreases-loop-left
decreases-loop-left l = l.left
