-- What a node keeps of its history, and which changes it records.
use Rattle.std.specs.Prelude.{◌≡◌, ◌≤◌, ◌<◌, ◌⊎◌, ◌^◌, ◌+◌, ◌-◌, ℕ, not, List, [], ◌∷◌, length, take, drop, Option, Some, None, option_map, ⊤, nat_le, if◌then◌else◌}
use Rattle.std.specs.Option.{option_or}
use Rattle.druid_segment_id.specs.Identifier.{Identifier, same_identifier}
use Rattle.druid_segment_descriptor.specs.Described.{Described}
use Rattle.druid_segment_descriptor.specs.Reply.{max_page, max_changes}
use Rattle.druid_segment_descriptor.specs.Replay.{is_strict, has_room, replay}
use Rattle.druid_segment_descriptor.specs.declared.change.Change.{Change}
use Rattle.druid_segment_descriptor.specs.declared.change.Change.TheVariants.{Load, Drop}
use Rattle.druid_sync_history.specs.declared.fault.HistoryFault.{HistoryFault}
use Rattle.druid_sync_history.specs.declared.fault.HistoryFault.TheVariants.{Served, NotServed, Full, CountAtEnd}

-- a set that is kept for its pages, and how many changes came before it
pub record Frozen : Type 0 where
  pub count : ℕ
  pub set : List Described

-- the incarnation; how many changes there were; the set after them; the last of them, and how many of these are kept; and a set
-- that is kept for its pages, if there is one
pub record Kept : Type 0 where
  pub incarnation : ℕ
  pub count : ℕ
  pub set : List Described
  pub changes : List Change
  pub limit : ℕ
  pub frozen : Option Frozen

-- the last n of a history's changes, or all where there are fewer
abbrev pub last_changes : ℕ → List Change → List Change
last_changes n history = drop (length history - n) history

-- it is the set after some of these changes, too large for one message, and all that came since are kept
pub record IsFrozen (limit : ℕ) (history : List Change) (frozen : Frozen) : Type 0 where
  pub within : frozen.count ≤ length history
  pub near : length history ≤ frozen.count + limit
  pub set : replay (take frozen.count history) ≡ Some frozen.set
  pub many : max_page < length frozen.set

-- where a set is kept for its pages, it is such a one
abbrev pub StandsFrozen : ℕ → List Change → Option Frozen → Type 0
StandsFrozen limit history None = ⊤
StandsFrozen limit history (Some frozen) = IsFrozen limit history frozen

-- it is what a node keeps after these changes
pub record StandsFor (kept : Kept) (history : List Change) : Type 0 where
  pub count : kept.count ≡ length history
  pub set : replay history ≡ Some kept.set
  pub changes : kept.changes ≡ last_changes kept.limit history
  pub frozen : StandsFrozen kept.limit history kept.frozen

-- it is kept of some history
pub record IsKept (kept : Kept) : Type 0 where
  pub incarnation : 1 ≤ kept.incarnation
  pub some : 1 ≤ kept.limit
  pub few : kept.limit ≤ max_changes
  pub history : List Change
  pub stands : StandsFor kept history

-- what is kept for its pages once there are so many changes: it is given up when more than are kept came since
abbrev pub frozen_after : ℕ → ℕ → Option Frozen → Option Frozen
frozen_after limit count None = None
frozen_after limit count (Some frozen) = if nat_le count (frozen.count + limit) then Some frozen else None

-- the count at which a set is frozen
abbrev pub frozen_count : Option Frozen → Option ℕ
frozen_count frozen = option_map (λ f. f.count) frozen

-- the count at which one is still frozen after so many changes, by the count at which it was
abbrev pub still_frozen : ℕ → ℕ → Option ℕ → Option ℕ
still_frozen limit count None = None
still_frozen limit count (Some frozen) = if nat_le count (frozen + limit) then Some frozen else None

-- with the set that is served frozen
abbrev pub with_frozen : Kept → Kept
with_frozen kept = record {
  incarnation = kept.incarnation;
  count = kept.count;
  set = kept.set;
  changes = kept.changes;
  limit = kept.limit;
  frozen = Some (record { count = kept.count; set = kept.set });
}

-- it stays, or its set is frozen, where none was and it is too large for one message
abbrev pub KeepsOrFreezes : Kept → Kept → Type 0
KeepsOrFreezes old new =
    (new ≡ old) ⊎ ((old.frozen ≡ None) × (max_page < length old.set) × (new ≡ with_frozen old))

-- the descriptor of that identifier
abbrev pub described_named : Identifier → List Described → Option Described
described_named id [] = None
described_named id (d ∷ more) = if same_identifier id d.id then Some d else described_named id more

-- the greatest count
abbrev pub last_count : ℕ
last_count = 2 ^ 64 - 1

-- why a change that is not strict is refused
abbrev pub not_strict : Change → HistoryFault
not_strict (Load d) = Served
not_strict (Drop d) = NotServed

-- why the set does not take the change
abbrev pub refusal_of_set : List Described → Change → Option HistoryFault
refusal_of_set set change =
    if not (is_strict set change) then Some (not_strict change)
    else (if not (has_room set change) then Some Full else None)

-- why no change is recorded after so many
abbrev pub refusal_of_count : ℕ → Option HistoryFault
refusal_of_count count = if nat_le last_count count then Some CountAtEnd else None

-- why the change is refused, whatever memory there is
unfoldable pub refusal : Kept → Change → Option HistoryFault
refusal kept change = option_or (refusal_of_set kept.set change) (refusal_of_count kept.count)

-- the change takes a segment out
abbrev pub IsDrop : Change → Type 0
IsDrop (Load d) = ⊥
IsDrop (Drop d) = ⊤
