-- What a node serves after its changes. A set of segments is the list of its descriptors by identifier, and each finite
-- set in which no identifier stands twice has exactly one such list.
use Rattle.std.specs.Prelude.{◌≡◌, ℕ, ◌<◌, ◌≤◌, ◌⊎◌, ◌↔◌, Bool, true, not, ◌&&◌, List, [], ◌∷◌, length, filter, Option, Some, None, option_and_then, nat_lt, slice_index_or, bytes_eq, Contains, if◌then◌else◌}
use Rattle.std.specs.List.{list_any}
use Rattle.std.specs.Ordering.{nat_cmp, is_lt}
use Rattle.std.specs.Cmp.Lexicographic.{slice_cmp}
use Rattle.std.specs.declared.cmp.Ordering.TheVariants.{Less}
use Rattle.druid_segment_id.specs.Identifier.{Identifier, identifier_text}
use Rattle.druid_segment_descriptor.specs.Described.{Described, same_described}
use Rattle.druid_segment_descriptor.specs.Reply.{max_segments, AreSorted}
use Rattle.druid_segment_descriptor.specs.declared.change.Change.{Change}
use Rattle.druid_segment_descriptor.specs.declared.change.Change.TheVariants.{Load, Drop}

-- a set of segments that a node may serve
pub record IsSegmentSet (s : List Described) : Type 0 where
  pub few : length s ≤ max_segments
  pub sorted : AreSorted s

-- the two have one identifier, by its text
abbrev pub shares_identifier : Described → Described → Bool
shares_identifier a b = bytes_eq (identifier_text a.id) (identifier_text b.id)

-- the identifier of the first comes before that of the second
abbrev pub is_before : Described → Described → Bool
is_before a b = is_lt (slice_cmp nat_cmp (identifier_text a.id) (identifier_text b.id))

-- the set and one segment more, at its place
abbrev pub with_segment : Described → List Described → List Described
with_segment d [] = d ∷ []
with_segment d (x ∷ xs) = if is_before d x then d ∷ x ∷ xs else x ∷ with_segment d xs

-- the set without the segment
abbrev pub without_segment : Described → List Described → List Described
without_segment d s = filter (λ x. not (same_described x d)) s

-- a load of an identifier that is not held, or a drop of an equal descriptor that is held
abbrev pub is_strict : List Described → Change → Bool
is_strict s (Load d) = not (list_any (λ x. shares_identifier x d) s)
is_strict s (Drop d) = list_any (λ x. same_described x d) s

-- a load needs room for one segment more
abbrev pub has_room : List Described → Change → Bool
has_room s (Load d) = nat_lt (length s) max_segments
has_room s (Drop d) = true

abbrev pub after : List Described → Change → List Described
after s (Load d) = with_segment d s
after s (Drop d) = without_segment d s

-- the set after the change, where it is strict and there is room
unfoldable pub changed : List Described → Change → Option (List Described)
changed s c = if is_strict s c && has_room s c then Some (after s c) else None

-- the set after the changes, one after another
abbrev pub replay_from : List Described → List Change → Option (List Described)
replay_from s [] = Some s
replay_from s (c ∷ cs) = option_and_then (λ t. replay_from t cs) (changed s c)

-- the set after all changes of a history
abbrev pub replay : List Change → Option (List Described)
replay cs = replay_from [] cs

-- ---- what the change makes of the set, as sets

-- t is s and the segment, which no member of s shares its identifier with
pub record Loads (s t : List Described) (d : Described) : Type 0 where
  pub absent : (x : Described) → Contains s x → identifier_text x.id ≡ identifier_text d.id → ⊥
  pub members : (x : Described) → Contains t x ↔ ((x ≡ d) ⊎ Contains s x)

-- t is s but the segment, which s holds
pub record Drops (s t : List Described) (d : Described) : Type 0 where
  pub held : Contains s d
  pub members : (x : Described) → Contains t x ↔ ((x ≡ d → ⊥) × Contains s x)

-- t is s after the change
abbrev pub IsChangedBy : List Described → List Described → Change → Type 0
IsChangedBy s t (Load d) = Loads s t d
IsChangedBy s t (Drop d) = Drops s t d

-- ---- where a segment stands

-- the segment at i has this identifier
pub record StandsAt (s : List Described) (id : Identifier) (i : ℕ) : Type 0 where
  pub within : i < length s
  pub here : (x : Described) → (slice_index_or s i x).id ≡ id

-- no segment has the identifier, and one that has belongs before the segment at i
pub record BelongsAt (s : List Described) (id : Identifier) (i : ℕ) : Type 0 where
  pub within : i ≤ length s
  pub below : (k : ℕ) (x : Described) → k < i → slice_cmp nat_cmp (identifier_text (slice_index_or s k x).id) (identifier_text id) ≡ Less
  pub above : (k : ℕ) (x : Described) → i ≤ k → k < length s
      → slice_cmp nat_cmp (identifier_text id) (identifier_text (slice_index_or s k x).id) ≡ Less
