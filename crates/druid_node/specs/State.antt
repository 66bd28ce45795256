-- What a node keeps: its history, and the segments that it holds.
use Rattle.std.specs.Prelude.{◌≡◌, ◌⊎◌, ◌↔◌, ◌++◌, true, not, List, [], ◌∷◌, map, filter, All, Contains, Option, Some, None}
use Rattle.druid_segment_id.specs.Identifier.{Identifier}
use Rattle.druid_segment_descriptor.specs.Described.{Described}
use Rattle.druid_segment_descriptor.specs.declared.change.Change.{Change}
use Rattle.druid_segment_descriptor.specs.declared.change.Change.TheVariants.{Load, Drop}
use Rattle.druid_segment_rows.specs.Segment.{Segment, IsSegment, HaveWords}
use Rattle.druid_partial_scan.specs.Once.{segment_named}
use Rattle.druid_sync_history.specs.Kept.{Kept, StandsFor, KeepsOrFreezes, refusal}
use Rattle.druid_sync_history.specs.declared.fault.HistoryFault.TheVariants.{NotServed}
use Rattle.druid_node.specs.declared.fault.NodeFault.{NodeFault}
use Rattle.druid_node.specs.declared.fault.NodeFault.TheVariants as faults

-- what is kept of its history, and the segments that it holds, by identifier
pub record State : Type 0 where
  pub history : Kept
  pub held : List Segment

abbrev pub descriptor_of : Segment → Described
descriptor_of s = s.descriptor

-- what are announced of segments
abbrev pub descriptors_of : List Segment → List Described
descriptors_of held = map descriptor_of held

-- those that are no tombstones
abbrev pub with_rows : List Described → List Described
with_rows ds = filter (λ d. not d.tombstone) ds

-- it holds the segments with rows that its history says that it serves
pub record IsState (state : State) : Type 0 where
  pub serves : descriptors_of state.held ≡ with_rows state.history.set
  pub each : All IsSegment state.held
  pub words : All HaveWords state.held

-- the new ones are the old ones and the segment, whose identifier none of them has
pub record HoldsMore (old new : List Segment) (segment : Segment) : Type 0 where
  pub absent : segment_named segment.descriptor.id old ≡ None
  pub members : (s : Segment) → Contains new s ↔ ((s ≡ segment) ⊎ Contains old s)

-- the new ones are the old ones but that of the identifier
pub record HoldsLess (old new : List Segment) (id : Identifier) : Type 0 where
  pub members : (s : Segment) → Contains new s ↔ ((s.descriptor.id ≡ id → ⊥) × Contains old s)

-- the new history is the old one with the change after it, of the same incarnation, and as much is kept of it
pub record Records (old new : Kept) (change : Change) : Type 0 where
  pub incarnation : new.incarnation ≡ old.incarnation
  pub limit : new.limit ≡ old.limit
  pub taken : refusal old change ≡ None
  pub stands : (history : List Change) → StandsFor old history → StandsFor new (history ++ change ∷ [])

-- the segment was loaded
pub record Takes (old new : State) (segment : Segment) : Type 0 where
  pub records : Records old.history new.history (Load segment.descriptor)
  pub holds : HoldsMore old.held new.held segment

-- the segment or tombstone was dropped
pub record Leaves (old new : State) (d : Described) : Type 0 where
  pub records : Records old.history new.history (Drop d)
  pub holds : HoldsLess old.held new.held d.id

-- the tombstone of that identifier
abbrev pub tombstone_of : Identifier → Described
tombstone_of id = record { id = id; core = 1; size = 0; tombstone = true }

-- the tombstone of that identifier was placed, and the same segments are held
pub record Covers (old new : State) (id : Identifier) : Type 0 where
  pub records : Records old.history new.history (Load (tombstone_of id))
  pub held : new.held ≡ old.held

-- an answer may freeze the set that is served, where none is frozen and it is too large for one message; all else of the state stays
pub record Freezes (old new : State) : Type 0 where
  pub incarnation : new.history.incarnation ≡ old.history.incarnation
  pub limit : new.history.limit ≡ old.history.limit
  pub stands : (history : List Change) → StandsFor old.history history → StandsFor new.history history
  pub only : KeepsOrFreezes old.history new.history
  pub held : new.held ≡ old.held

-- why a change is not made: what the history refuses it for, and out of memory only where it refuses nothing
abbrev pub Refuses : Kept → Change → NodeFault → Type 0
Refuses kept change faults.Device = ⊥
Refuses kept change (faults.File fault) = ⊥
Refuses kept change faults.NameDiffers = ⊥
Refuses kept change (faults.History fault) = refusal kept change ≡ Some fault
Refuses kept change (faults.Wire fault) = ⊥
Refuses kept change faults.NoFile = ⊥
Refuses kept change (faults.Stale found) = ⊥
Refuses kept change faults.NotPartitionZero = ⊥
Refuses kept change faults.Memory = refusal kept change ≡ None

-- why what the history has under an identifier is not dropped
abbrev pub RefusesToDrop : Kept → Option Described → NodeFault → Type 0
RefusesToDrop kept None fault = fault ≡ faults.History NotServed
RefusesToDrop kept (Some d) fault = Refuses kept (Drop d) fault

-- why the tombstone of an identifier is not placed: N7 first
abbrev pub RefusesToCover : Kept → Identifier → NodeFault → Type 0
RefusesToCover kept id faults.Device = ⊥
RefusesToCover kept id (faults.File fault) = ⊥
RefusesToCover kept id faults.NameDiffers = ⊥
RefusesToCover kept id (faults.History fault) = (id.partition ≡ 0) × (refusal kept (Load (tombstone_of id)) ≡ Some fault)
RefusesToCover kept id (faults.Wire fault) = ⊥
RefusesToCover kept id faults.NoFile = ⊥
RefusesToCover kept id (faults.Stale found) = ⊥
RefusesToCover kept id faults.NotPartitionZero = id.partition ≡ 0 → ⊥
RefusesToCover kept id faults.Memory = (id.partition ≡ 0) × (refusal kept (Load (tombstone_of id)) ≡ None)
