-- What nodes hold of one data source.
use Rattle.std.specs.Prelude.{◌≡◌, ℕ, true, List, map, filter, ◌⊎◌, ◌↔◌, Contains}
use Rattle.std.specs.List.{IsDistinct}
use Rattle.druid_segment_id.specs.Identifier.{Identifier}
use Rattle.druid_segment_id.specs.Group.{Group, group_of, same_group}
use Rattle.druid_segment_descriptor.specs.Described.{Described}
use Rattle.druid_timeline_members.specs.Members.{Member, member_of, IsComplete}

-- a segment that a node holds: its chunk, and its place there. Of a descriptor only the size is left out
pub record Held : Type 0 where
  pub group : Group
  pub member : Member

-- what is held where a node announces a descriptor
abbrev pub held_of : ℕ → Described → Held
held_of node d = record {
  group = group_of d.id;
  member = member_of node d;
}

-- the members of a chunk
abbrev pub members_of : List Held → Group → List Member
members_of held g = map (λ h. h.member) (filter (λ h. same_group h.group g) held)

-- the chunk has a member, and each of its core partitions
abbrev pub IsCompleteIn : List Held → Group → Type 0
IsCompleteIn held g = IsComplete (members_of held g)

-- the list has each complete chunk
abbrev pub HasComplete : List Held → List Group → Type 0
HasComplete held complete = (g : Group) → IsCompleteIn held g → Contains complete g

-- each chunk of which something is held, once
pub record AreGroupsOf (held : List Held) (groups : List Group) : Type 0 where
  pub once : IsDistinct same_group groups
  pub all : (g : Group) → Contains groups g ↔ ((h : Held) × Contains held h × (h.group ≡ g))

-- what a timeline stands for: a data source, and what is held of it
pub record Serving : Type 0 where
  pub source : List ℕ
  pub held : List Held

-- no node holds a segment
abbrev pub HoldsNothing : List Held → Type 0
HoldsNothing held = (h : Held) → Contains held h → ⊥

-- the node holds the segment of this identifier
abbrev pub IsHeld : List Held → ℕ → Identifier → Type 0
IsHeld held node id =
    (h : Held) × Contains held h × (h.group ≡ group_of id) × (h.member.partition ≡ id.partition) × (h.member.node ≡ node)

-- the node holds the segment of this identifier as no tombstone, so that it has its rows
abbrev pub HasRows : List Held → ℕ → Identifier → Type 0
HasRows held node id =
    (h : Held) × Contains held h × (h.group ≡ group_of id) × (h.member.partition ≡ id.partition) × (h.member.node ≡ node)
    × (h.member.serves ≡ true)

-- the segment of this identifier, where the node holds it
abbrev pub IsPlaceOf : ℕ → Identifier → Held → Type 0
IsPlaceOf node id h = (h.group ≡ group_of id) × (h.member.partition ≡ id.partition) × (h.member.node ≡ node)

-- the segment of this identifier is of the source, and the node holds it
abbrev pub IsServed : Serving → ℕ → Identifier → Type 0
IsServed s node id = (id.source ≡ s.source) × IsHeld s.held node id

-- the same as no tombstone
abbrev pub ServesRows : Serving → ℕ → Identifier → Type 0
ServesRows s node id = (id.source ≡ s.source) × HasRows s.held node id

-- at most one stands for a node and an identifier
abbrev pub OnePerPlace : List Held → Type 0
OnePerPlace held =
    (node : ℕ) (id : Identifier) (x y : Held) → Contains held x → Contains held y → IsPlaceOf node id x → IsPlaceOf node id y → x ≡ y

-- the set new is old with one more
abbrev pub AddsHeld : List Held → List Held → Held → Type 0
AddsHeld old new h = (x : Held) → Contains new x ↔ ((x ≡ h) ⊎ Contains old x)

-- the set new is old without what the node holds of this identifier
abbrev pub RemovesHeld : List Held → List Held → ℕ → Identifier → Type 0
RemovesHeld old new node id = (x : Held) → Contains new x ↔ (Contains old x × (IsPlaceOf node id x → ⊥))

-- the set old is new with one more, which the node holds of this identifier
abbrev pub RemovesOneHeld : List Held → List Held → ℕ → Identifier → Type 0
RemovesOneHeld old new node id = (h : Held) × IsPlaceOf node id h × AddsHeld new old h

-- as sets they are one
abbrev pub SameHeld : List Held → List Held → Type 0
SameHeld old new = (x : Held) → Contains new x ↔ Contains old x
