use Rattle.std.specs.BTreeMap.{btree_map_len}
use Rattle.druid_inventory.proofs.ChangeOfTimelineLemmas.{GoOver}
use Rattle.druid_inventory.proofs.timelines.end_changes.Given as goal

abbrev pub invariant-loop-source : goal.invariant-loop-source
invariant-loop-source l = GoOver l.initial.changing l.changing l.timelines

abbrev pub decreases-loop-source : goal.decreases-loop-source
decreases-loop-source l = btree_map_len l.changing
