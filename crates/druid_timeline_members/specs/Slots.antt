-- Members, kept by partition: only proofs use this.
use Rattle.std.specs.Prelude.{◌≡◌, ℕ, zero, suc, ◌+◌, Bool, true, not, List, map, Some, is_some, if◌then◌else◌, Contains}
use Rattle.std.specs.Ordering.{nat_cmp}
use Rattle.std.specs.BTreeMap.{BTreeMap, get}
use Rattle.std.specs.List.{flat_map}
use Rattle.druid_segment_descriptor.specs.Described.{Described}
use Rattle.druid_timeline_members.specs.Members.{Member, HasPartition}

-- what a node states of a partition that it holds
pub record Statement : Type 0 where
  pub core : ℕ
  pub serves : Bool

-- what a node states with a descriptor
abbrev pub stated_of : Described → Statement
stated_of d = record { core = d.core; serves = not d.tombstone }

-- a node, and what it states
abbrev pub Replica : Type 0
Replica = ℕ × Statement

-- the member of a partition
abbrev pub member_at : ℕ → Replica → Member
member_at p r = record { node = r.0; partition = p; core = r.1.core; serves = r.1.serves }

-- the node holds it as no tombstone
abbrev pub Serves : List Replica → ℕ → Type 0
Serves rs node = (r : Replica) × Contains rs r × (r.0 ≡ node) × (r.1.serves ≡ true)

-- a node is there once
abbrev pub EachOnce : List Replica → Type 0
EachOnce rs = (x y : Replica) → Contains rs x → Contains rs y → x.0 ≡ y.0 → x ≡ y

-- the members of each partition
abbrev pub members_in : List (ℕ × List Replica) → List Member
members_in slots = flat_map (λ e. map (member_at e.0) e.1) slots

-- a member has the partition, and all that have it are the node's
abbrev pub IsAlone : List Member → ℕ → ℕ → Type 0
IsAlone ms p node = HasPartition ms p × ((x : Member) → Contains ms x → x.partition ≡ p → x.node ≡ node)

-- no partition is kept without a node
abbrev pub NoneEmpty : BTreeMap ℕ (List Replica) → Type 0
NoneEmpty m = (p : ℕ) (s : List Replica) → get nat_cmp m p ≡ Some s → (r : Replica) × Contains s r

-- the slots by their partitions
abbrev pub SlotMap : Type 0
SlotMap = BTreeMap ℕ (List Replica)

-- how many of the numbers below n have a slot
abbrev pub kept_below : SlotMap → ℕ → ℕ
kept_below m zero = 0
kept_below m (suc n) = kept_below m n + (if is_some (get nat_cmp m n) then 1 else 0)
