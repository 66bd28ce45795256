-- Which pieces of which segments a query is answered from, and which nodes serve rows of each.
use Rattle.std.specs.Prelude.{◌≡◌, ℕ, true, false, List, map, All, Contains, ◌↔◌}
use Rattle.std.specs.List.Sorted.{IsStrictlyIncreasing, IsStrictlySortedBy}
use Rattle.std.specs.declared.cmp.Ordering.{Ordering}
use Rattle.std.specs.Ordering.{nat_cmp, then_cmp}
use Rattle.druid_time.specs.Extent.{AnyHas}
use Rattle.druid_segment_id.specs.Group.{group_of}
use Rattle.druid_segment_id.specs.Identifier.{Identifier}
use Rattle.druid_segment_descriptor.specs.Described.{Described}
use Rattle.druid_timeline_members.specs.Members.{Member}
use Rattle.druid_timeline.specs.Holding.{Held, members_of}
use Rattle.druid_timeline.specs.Pieces.{Shown, ArePiecesIn}
use Rattle.druid_inventory.specs.Entry.{Entry}
use Rattle.druid_inventory.specs.Sources.{Serves, IsHoldingOf}
use Rattle.druid_query.specs.Query.{Query}
use Rattle.druid_query.specs.Asked.{Asked}

-- a piece of a segment, and the nodes that serve its rows
pub record Pair : Type 0 where
  pub asked : Asked
  pub nodes : List ℕ

abbrev pub asked_of : List Pair → List Asked
asked_of pairs = map (λ p. p.asked) pairs

-- a node serves rows of the partition: it holds it as no tombstone
abbrev pub IsPartServed : List Member → ℕ → Type 0
IsPartServed ms partition = (m : Member) × Contains ms m × (m.partition ≡ partition) × (m.serves ≡ true)

-- the piece is asked for: its segment is of the source, and one of the chunk that is visible in just that piece, of which a
-- node serves rows
pub record IsWanted (source : List ℕ) (held : List Held) (pieces : List Shown) (a : Asked) : Type 0 where
  pub of_source : a.0.source ≡ source
  pub shown : Contains pieces (record { interval = a.1; group = group_of a.0 })
  pub served : IsPartServed (members_of held (group_of a.0)) a.0.partition

-- the node serves rows of the segment
abbrev pub IsReplica : List Entry → Identifier → ℕ → Type 0
IsReplica inventory id node = (d : Described) × Serves inventory node d × (d.id ≡ id) × (d.tombstone ≡ false)

-- the nodes are all that serve rows of the segment, rising
pub record AreReplicas (inventory : List Entry) (id : Identifier) (nodes : List ℕ) : Type 0 where
  pub rising : IsStrictlyIncreasing nodes
  pub all : (n : ℕ) → Contains nodes n ↔ IsReplica inventory id n

-- by the start of the piece, and then by the partition
abbrev pub start_cmp : Asked → Asked → Ordering
start_cmp a b = nat_cmp a.1.start b.1.start

abbrev pub partition_cmp : Asked → Asked → Ordering
partition_cmp a b = nat_cmp a.0.partition b.0.partition

abbrev pub place_cmp : Asked → Asked → Ordering
place_cmp = then_cmp start_cmp partition_cmp

-- each piece that is asked for, once, in order, with its replicas
pub record ArePairs (inventory : List Entry) (source : List ℕ) (held : List Held) (pieces : List Shown) (pairs : List Pair) : Type 0 where
  pub all : (a : Asked) → Contains (asked_of pairs) a ↔ IsWanted source held pieces a
  pub replicas : All (λ p. AreReplicas inventory p.asked.0 p.nodes) pairs
  pub ordered : IsStrictlySortedBy place_cmp (asked_of pairs)

-- the pairs from which the query is answered: over the holding of its source, and what is visible of it in its intervals
pub record IsPlanOf (inventory : List Entry) (query : Query) (pairs : List Pair) : Type 0 where
  pub held : List Held
  pub pieces : List Shown
  pub holding : IsHoldingOf inventory query.source held
  pub visible : ArePiecesIn (AnyHas query.intervals) held pieces
  pub paired : ArePairs inventory query.source held pieces pairs
