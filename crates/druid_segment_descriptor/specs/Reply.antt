-- What a node answers to a broker that follows it.
use Rattle.std.specs.Prelude.{◌≡◌, ℕ, ◌+◌, ◌<◌, ◌≤◌, ◌⊎◌, List, length, slice_index_or}
use Rattle.std.specs.List.{AllAdjacentBelow}
use Rattle.std.specs.declared.cmp.Ordering.TheVariants.{Less}
use Rattle.std.specs.Ordering.{nat_cmp}
use Rattle.std.specs.Cmp.Lexicographic.{slice_cmp}
use Rattle.druid_segment_id.specs.Identifier.{identifier_text}
use Rattle.druid_segment_descriptor.specs.Described.{Described}
use Rattle.druid_segment_descriptor.specs.Mark.{Point}
use Rattle.druid_segment_descriptor.specs.declared.change.Change.{Change}

-- the most segments that a node serves
abbrev pub max_segments : ℕ
max_segments = 200000

-- the most segments of a page: a snapshot that has more is sent in pages
abbrev pub max_page : ℕ
max_page = 20000

-- the most pages of a snapshot
abbrev pub max_pages : ℕ
max_pages = 10

-- the most changes that a delta has, and that a node keeps
abbrev pub max_changes : ℕ
max_changes = 1000

-- a comes before b by the bytes of their identifiers' texts
abbrev pub IsBefore : Described → Described → Type 0
IsBefore a b = slice_cmp nat_cmp (identifier_text a.id) (identifier_text b.id) ≡ Less

-- each comes before the next
abbrev pub AreSorted : List Described → Type 0
AreSorted ds = AllAdjacentBelow IsBefore ds (length ds)

-- no identifier stands at two places
abbrev pub HaveOwnIdentifiers : List Described → Type 0
HaveOwnIdentifiers ds =
    (i j : ℕ) (d : Described) → i < length ds → j < length ds
    → identifier_text (slice_index_or ds i d).id ≡ identifier_text (slice_index_or ds j d).id → i ≡ j

-- what a type of replies keeps of a snapshot
pub record IsSnapshot (at : Point) (segments : List Described) : Type 0 where
  pub incarnation : 1 ≤ at.incarnation
  pub few : length segments ≤ max_segments
  pub sorted : AreSorted segments

-- a page has as many segments as any, and the last one at least
abbrev pub IsFull : ℕ → ℕ → ℕ → Type 0
IsFull page of count = (count ≡ max_page) ⊎ ((1 ≤ count) × (page + 1 ≡ of))

-- what a type of replies keeps of the segments of a page of so many
pub record IsPageOf (page of : ℕ) (segments : List Described) : Type 0 where
  pub several : 2 ≤ of
  pub not_many : of ≤ max_pages
  pub within : page < of
  pub few : length segments ≤ max_page
  pub full : IsFull page of (length segments)
  pub sorted : AreSorted segments

-- the mark to is that many changes after from, in its incarnation
pub record IsAsFar (from to : Point) (changes : ℕ) : Type 0 where
  pub incarnation : to.incarnation ≡ from.incarnation
  pub count : to.count ≡ from.count + changes

-- what a type of replies keeps of a delta
pub record IsDelta (from to : Point) (changes : List Change) : Type 0 where
  pub incarnation : 1 ≤ from.incarnation
  pub few : length changes ≤ max_changes
  pub far : IsAsFar from to (length changes)
