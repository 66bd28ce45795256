use Rattle.std.proofs.Common.{◌≡◌}
use Rattle.std.specs.Ordering.{nat_cmp}
use Rattle.std.specs.BTreeMap as tree
use Rattle.druid_timeline_members.specs.Slots.{NoneEmpty, members_in}
use Rattle.druid_timeline_members.proofs.SlotLemmas.{Slots, AreAtOrLeft}
use Rattle.druid_timeline_members.proofs.members.Members.is_only.Given as goal

abbrev pub invariant-loop-other : goal.invariant-loop-other
invariant-loop-other l =
    (m : Slots) × (members_in m.entries ≡ l.self) × tree.IsOrdered nat_cmp m × NoneEmpty m
    × AreAtOrLeft m.entries l.other-iterator l.partition l.node
