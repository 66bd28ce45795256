use Rattle.std.specs.BTreeMap.{btree_map_len}
use Rattle.druid_inventory.specs.Transactions.{KeepsAfter}
use Rattle.druid_inventory.proofs.transactions.commit_each.Given as goal

abbrev pub invariant-loop-source : goal.invariant-loop-source
invariant-loop-source l = KeepsAfter l.initial.timelines l.initial.edits l.timelines l.edits

abbrev pub decreases-loop-source : goal.decreases-loop-source
decreases-loop-source l = btree_map_len l.edits
