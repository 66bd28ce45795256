-- The members of one chunk, on all nodes.
use Rattle.std.specs.Prelude.{◌≡◌, ℕ, ◌<◌, max, Bool, true, not, List, [], ◌∷◌, ◌⊎◌, ◌↔◌, Contains}
use Rattle.druid_segment_descriptor.specs.Described.{Described}

-- a partition that a node holds, with the number of core partitions that it names, and whether it serves rows of it: a
-- tombstone has none
pub record Member : Type 0 where
  pub node : ℕ
  pub partition : ℕ
  pub core : ℕ
  pub serves : Bool

-- what a node announces with a descriptor
abbrev pub member_of : ℕ → Described → Member
member_of node d = record { node = node; partition = d.id.partition; core = d.core; serves = not d.tombstone }

-- the greatest number of core partitions that a member names, and 0 without members
abbrev pub core_count : List Member → ℕ
core_count [] = 0
core_count (m ∷ ms) = max m.core (core_count ms)

-- a member has this partition
abbrev pub HasPartition : List Member → ℕ → Type 0
HasPartition ms p = (m : Member) × Contains ms m × (m.partition ≡ p)

abbrev pub HasMember : List Member → Type 0
HasMember ms = (m : Member) × Contains ms m

-- there is a member, and each partition below the core count is some member's
pub record IsComplete (ms : List Member) : Type 0 where
  pub some : HasMember ms
  pub cores : (p : ℕ) → p < core_count ms → HasPartition ms p

-- the member is of the partition, and the node holds it
abbrev pub IsAt : ℕ → ℕ → Member → Type 0
IsAt partition node m = (m.partition ≡ partition) × (m.node ≡ node)

-- the node holds the partition
abbrev pub HoldsPlace : List Member → ℕ → ℕ → Type 0
HoldsPlace ms partition node = (m : Member) × Contains ms m × (m.partition ≡ partition) × (m.node ≡ node)

-- the node holds the partition as no tombstone
abbrev pub ServesPlace : List Member → ℕ → ℕ → Type 0
ServesPlace ms partition node =
    (m : Member) × Contains ms m × (m.partition ≡ partition) × (m.node ≡ node) × (m.serves ≡ true)

-- a node holds a partition as one member
abbrev pub ServedOnce : List Member → ℕ → Type 0
ServedOnce ms partition =
    (x y : Member) → Contains ms x → Contains ms y → x.partition ≡ partition → y.partition ≡ partition → x.node ≡ y.node → x ≡ y

-- the set new is old with one member more
abbrev pub Adds : List Member → List Member → Member → Type 0
Adds old new m = (x : Member) → Contains new x ↔ ((x ≡ m) ⊎ Contains old x)

-- the set new is old without the members of the partition that the node holds
abbrev pub RemovesPlace : List Member → List Member → ℕ → ℕ → Type 0
RemovesPlace old new partition node = (x : Member) → Contains new x ↔ (Contains old x × (IsAt partition node x → ⊥))

-- the set old is new with one member more, of the partition that the node holds
abbrev pub RemovesOne : List Member → List Member → ℕ → ℕ → Type 0
RemovesOne old new partition node = (m : Member) × IsAt partition node m × Adds new old m

-- all members are of the partition, and held by the node
abbrev pub AllAt : List Member → ℕ → ℕ → Type 0
AllAt ms partition node = (x : Member) → Contains ms x → IsAt partition node x

-- as sets they are one
abbrev pub SameMembers : List Member → List Member → Type 0
SameMembers old new = (x : Member) → Contains new x ↔ Contains old x
