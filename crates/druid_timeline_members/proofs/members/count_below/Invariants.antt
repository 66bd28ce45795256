use Rattle.std.proofs.Common.{◌≡◌, ◌+◌}
use Rattle.druid_timeline_members.proofs.CountLemmas.{counted}
use Rattle.druid_timeline_members.proofs.members.count_below.Given as goal

abbrev pub invariant-loop-partition : goal.invariant-loop-partition
invariant-loop-partition l =
    l.count + counted l.bound l.partition-iterator ≡ counted l.bound l.slots.entries
