-- What a node announces of a segment.
use Rattle.std.specs.Prelude.{◌≡◌, ◌<◌, ◌≤◌, ◌^◌, ℕ, Bool, true, ◌==◌, ◌&&◌}
use Rattle.std.specs.Bool.{beq}
use Rattle.std.specs.declared.cmp.Ordering.{Ordering}
use Rattle.std.specs.Ordering.{nat_cmp, bool_cmp, ordering_then}
use Rattle.druid_segment_id.specs.Identifier.{Identifier, IsIdentifier, same_identifier, identifier_cmp}

-- its identifier, the number of core partitions that it names for its chunk, the size that its producer states, and
-- whether it is a tombstone, which overshadows and has no rows
pub record Described : Type 0 where
  pub id : Identifier
  pub core : ℕ
  pub size : ℕ
  pub tombstone : Bool

-- a numbered shard spec has at most this many core partitions
abbrev pub max_core : ℕ
max_core = 32768

-- the whole chunk, in one partition of no size
abbrev pub IsWholeChunk : Described → Type 0
IsWholeChunk d = (d.id.partition ≡ 0) × (d.core ≡ 1) × (d.size ≡ 0)

-- each part is one, and a tombstone stands for a whole chunk
pub record IsDescribed (d : Described) : Type 0 where
  pub id : IsIdentifier d.id
  pub core : d.core ≤ max_core
  pub size : d.size < 2 ^ 64
  pub tombstone : d.tombstone ≡ true → IsWholeChunk d

-- the test of equal descriptors
abbrev pub same_described : Described → Described → Bool
same_described a b = same_identifier a.id b.id && a.core == b.core && a.size == b.size && beq a.tombstone b.tombstone

-- by identifier, then by core count, then by size, and a tombstone last
abbrev pub described_cmp : Described → Described → Ordering
described_cmp a b =
    ordering_then (ordering_then (ordering_then (identifier_cmp a.id b.id) (nat_cmp a.core b.core)) (nat_cmp a.size b.size))
    (bool_cmp a.tombstone b.tombstone)

-- the place of a segment in its chunk: its number, and the number of core partitions that it names
pub record Place : Type 0 where
  pub partition : ℕ
  pub core : ℕ
