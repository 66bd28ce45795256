-- The nodes of a slot: only proofs use this.
use Rattle.std.specs.Prelude.{List, [], ◌∷◌}
use Rattle.druid_timeline_members.specs.declared.slot.Holders.{Holders}
use Rattle.druid_timeline_members.specs.declared.slot.Holders.TheVariants.{One, Several}
use Rattle.druid_timeline_members.specs.Slots.{Replica}

abbrev pub replicas_of : Holders → List Replica
replicas_of (One node stated) = (node, stated) ∷ []
replicas_of (Several roster) = roster.value
