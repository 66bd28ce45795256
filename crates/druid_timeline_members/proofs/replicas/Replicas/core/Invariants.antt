use Rattle.std.proofs.Common.{◌≡◌, max, drop}
use Rattle.druid_timeline_members.proofs.SlotLemmas.{greatest}
use Rattle.druid_timeline_members.proofs.replicas.Replicas.core.Given as goal

abbrev pub invariant-loop-stated : goal.invariant-loop-stated
invariant-loop-stated l = max l.core (greatest (drop l.stated-index l.stated-items)) ≡ greatest l.stated-items
