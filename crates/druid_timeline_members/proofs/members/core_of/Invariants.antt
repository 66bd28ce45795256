use Rattle.std.proofs.Common.{◌≡◌, max}
use Rattle.druid_timeline_members.specs.Members.{core_count}
use Rattle.druid_timeline_members.specs.Slots.{members_in}
use Rattle.druid_timeline_members.proofs.members.core_of.Given as goal

abbrev pub invariant-loop-slot : goal.invariant-loop-slot
invariant-loop-slot l = max l.core (core_count (members_in l.slot-iterator)) ≡ core_count (members_in l.slots.entries)
