use Rattle.druid_timeline_members.proofs.CompleteLemmas.{IsCoreOfOthers}
use Rattle.druid_timeline_members.proofs.replicas.core_of_others.Given as goal

abbrev pub invariant-loop-i : goal.invariant-loop-i
invariant-loop-i l = IsCoreOfOthers l.nodes l.stated l.node l.i l.core
