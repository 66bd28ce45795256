use Rattle.druid_timeline_members.proofs.CompleteLemmas.{IsCoreBeside}
use Rattle.druid_timeline_members.proofs.members.core_without.Given as goal

abbrev pub invariant-loop-partition : goal.invariant-loop-partition
invariant-loop-partition l =
    IsCoreBeside l.slots.entries l.partition-iterator l.at l.node l.core
