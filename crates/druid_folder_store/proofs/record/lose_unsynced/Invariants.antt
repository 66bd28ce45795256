use Rattle.druid_folder_store.proofs.Lost.{AreLost}
use Rattle.druid_folder_store.proofs.record.lose_unsynced.Given as goal

abbrev pub invariant-loop-i : goal.invariant-loop-i
invariant-loop-i l = AreLost l.fn.calls l.calls l.i

abbrev pub decreases-loop-i : goal.decreases-loop-i
decreases-loop-i l = l.i
