-- The chunks of one data source, each with its members.
use Rattle.std.specs.Prelude.{◌≡◌, ◌↔◌, List, [], ◌∷◌, All, Contains, if◌then◌else◌}
use Rattle.std.specs.List.{IsDistinct}
use Rattle.std.specs.Map.{keys_of}
use Rattle.druid_time.specs.Extent.{Extent, Share}
use Rattle.druid_segment_id.specs.Group.{Group, same_group}
use Rattle.druid_timeline_members.specs.Members.{Member, IsComplete, HasMember}

-- a chunk with its members
abbrev pub Chunk : Type 0
Chunk = Group × List Member

-- each group stands once, and has members
pub record AreChunks (chunks : List Chunk) : Type 0 where
  pub once : IsDistinct same_group (keys_of chunks)
  pub inhabited : All (λ chunk. HasMember chunk.1) chunks

-- the members of a group's chunk; none where there is no chunk of it
abbrev pub members_at : List Chunk → Group → List Member
members_at [] g = []
members_at (chunk ∷ chunks) g = if same_group chunk.0 g then chunk.1 else members_at chunks g

-- none of the chunks is of the group
abbrev pub HasNoChunk : List Chunk → Group → Type 0
HasNoChunk chunks g = (chunk : Chunk) → Contains chunks chunk → chunk.0 ≡ g → ⊥

-- one of the chunks is g, and is complete
abbrev pub IsCompleteOf : List Chunk → Group → Type 0
IsCompleteOf chunks g = (ms : List Member) × Contains chunks (g, ms) × IsComplete ms

-- the chunk is complete, is not that of g, and shares an instant with the part
abbrev pub Overlaps : Group → Extent → Chunk → Type 0
Overlaps g part chunk = IsComplete chunk.1 × (chunk.0 ≡ g → ⊥) × Share part chunk.0.interval

-- one of the chunks is other, is complete, is not g, and shares an instant with the part
pub record IsOverlapOf (chunks : List Chunk) (g : Group) (part : Extent) (other : Group) : Type 0 where
  pub complete : IsCompleteOf chunks other
  pub different : other ≡ g → ⊥
  pub share : Share part other.interval

-- the keys are those of the chunks other than g that overlap the part, each once
pub record AreOverlapsOf (chunks : List Chunk) (g : Group) (part : Extent) (keys : List Group) : Type 0 where
  pub all : (other : Group) → Contains keys other ↔ IsOverlapOf chunks g part other
  pub once : IsDistinct same_group keys
