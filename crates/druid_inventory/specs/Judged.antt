-- What is judged before changes are made and inventories joined: only proofs use this.
use Rattle.std.specs.Prelude.{◌≡◌, ℕ, ◌+◌, ◌<◌, ◌≤◌, List, Option, Result, Ok, Err, length, false, Some, slice_get, slice_set, slice_index, slice_index_or, Contains, MatchOption, MatchResult}
use Rattle.std.specs.List.{insert}
use Rattle.std.specs.Ordering.{is_lt}
use Rattle.druid_segment_id.specs.Identifier.{Identifier, identifier_text}
use Rattle.druid_segment_descriptor.specs.Described.{Described}
use Rattle.druid_segment_descriptor.specs.Mark.{mark_cmp}
use Rattle.druid_segment_descriptor.specs.Replay.{StandsAt, BelongsAt}
use Rattle.druid_segment_descriptor.specs.Reply.{AreSorted}
use Rattle.druid_segment_descriptor.specs.declared.change.Change.{Change}
use Rattle.druid_segment_descriptor.specs.declared.change.Change.TheVariants.{Load, Drop}
use Rattle.druid_inventory.specs.Entry.{Entry}
use Rattle.druid_inventory.specs.Step.{NotStrictAt, NoRoomAt}
use Rattle.druid_inventory.specs.declared.fault.ApplyFault.{ApplyFault}
use Rattle.druid_inventory.specs.declared.fault.ApplyFault.TheVariants as faults

-- the segment that a change loads or drops
abbrev pub segment_of : Change → Described
segment_of (Load d) = d
segment_of (Drop d) = d

-- the segment of the set that has the identifier, or nothing where none has
abbrev pub IsHolderOf : List Described → Identifier → Option Described → Type 0
IsHolderOf s id holder =
    MatchOption holder ((x : Described) → Contains s x → identifier_text x.id ≡ identifier_text id → ⊥)
    (λ d. Contains s d × (identifier_text d.id ≡ identifier_text id))

-- from n on, no change is of the identifier
abbrev pub NoneOfFrom : List Change → Identifier → ℕ → Type 0
NoneOfFrom cs id n =
    (k : ℕ) (c : Change) → n ≤ k → k < length cs → identifier_text (segment_of (slice_index_or cs k c)).id ≡ identifier_text id → ⊥

-- the change at this place is the last that is of the identifier
pub record IsLastOf (cs : List Change) (id : Identifier) (place : ℕ) : Type 0 where
  pub within : place < length cs
  pub here : (c : Change) → (segment_of (slice_index_or cs place c)).id ≡ id
  pub beyond : NoneOfFrom cs id (place + 1)

-- of each identifier that a change is of, the place of the last such change, by identifier; the segments have the identifiers
pub record AreLast (cs : List Change) (last : List ℕ) (segments : List Described) : Type 0 where
  pub long : length segments ≡ length last
  pub sorted : AreSorted segments
  pub each : (k : ℕ) (d : Described) → k < length last → IsLastOf cs (slice_index_or segments k d).id (slice_index last k)
  pub all : (id : Identifier) → ((d : Described) → Contains segments d → identifier_text d.id ≡ identifier_text id → ⊥) → NoneOfFrom cs id 0

-- where the segment of the identifier stands, or where it would
abbrev pub IsFound : List Described → Identifier → Result ℕ ℕ → Type 0
IsFound segments id found = MatchResult found (StandsAt segments id) (BelongsAt segments id)

-- a place is written where the last one stands, or put where it would
abbrev pub noted : List ℕ → Result ℕ ℕ → ℕ → List ℕ
noted last (Ok k) place = slice_set last k place
noted last (Err k) place = insert last k place

-- the first of the changes that offends, where n changes stand before them
abbrev pub IsOffence : List Described → List Change → ℕ → ApplyFault → Type 0
IsOffence s cs n (faults.NotStrict index) = (k : ℕ) × NotStrictAt s cs k × (index ≡ n + k)
IsOffence s cs n faults.TooMany = (k : ℕ) × NoRoomAt s cs k
IsOffence s cs n _ = ⊥

-- no entry of the second is later than that of its node in the first
abbrev pub NoneLater : List Entry → List Entry → Type 0
NoneLater a b = (node : ℕ) (x y : Entry) → slice_get a node ≡ Some x → slice_get b node ≡ Some y → is_lt (mark_cmp x.mark y.mark) ≡ false
