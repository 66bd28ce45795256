-- What two inventories are together.
use Rattle.std.specs.Prelude.{◌≡◌, ◌≢◌, ℕ, ◌<◌, List, map, Some, slice_get, if◌then◌else◌}
use Rattle.std.specs.List.{zip}
use Rattle.std.specs.Ordering.{is_lt}
use Rattle.druid_segment_descriptor.specs.Mark.{mark_cmp}
use Rattle.druid_inventory.specs.Entry.{Entry}
use Rattle.druid_inventory.specs.declared.fault.JoinFault.{JoinFault}
use Rattle.druid_inventory.specs.declared.fault.JoinFault.TheVariants as faults

-- the names of the nodes, in their order
abbrev pub names_of : List Entry → List (List ℕ)
names_of inventory = map (λ e. e.name) inventory

-- of two entries of a node, the one of later mark; at one mark the first
abbrev pub later : Entry → Entry → Entry
later a b = if is_lt (mark_cmp a.mark b.mark) then b else a

-- of each node the later entry
abbrev pub later_each : List Entry → List Entry → List Entry
later_each a b = map (λ p. later p.0 p.1) (zip a b)

-- the two tell other sets at one mark
abbrev pub Conflict : Entry → Entry → Type 0
Conflict a b = (a.mark ≡ b.mark) × (a.set ≢ b.set)

-- the two inventories tell other sets of a node at one mark
abbrev pub ConflictAt : List Entry → List Entry → ℕ → Type 0
ConflictAt a b node = (x y : Entry) × (slice_get a node ≡ Some x) × (slice_get b node ≡ Some y) × Conflict x y

-- together they are an inventory: they are of the same nodes, agree at equal marks, and of each node the later entry counts
pub record IsJoin (a b joined : List Entry) : Type 0 where
  pub same_nodes : names_of a ≡ names_of b
  pub agree : (node : ℕ) → ConflictAt a b node → ⊥
  pub entries : joined ≡ later_each a b

-- why there is no inventory that they are together: first the nodes are compared, and then it is the least node
abbrev pub RefusesJoin : List Entry → List Entry → JoinFault → Type 0
RefusesJoin a b faults.OtherNodes = names_of a ≢ names_of b
RefusesJoin a b (faults.Conflict node) =
    (names_of a ≡ names_of b) × ConflictAt a b node × ((i : ℕ) → i < node → ConflictAt a b i → ⊥)
RefusesJoin a b faults.Memory = ⊥

-- the fault that tells why they are not joined; out of memory only where nothing else is refused
abbrev pub ReportsJoin : List Entry → List Entry → JoinFault → Type 0
ReportsJoin a b faults.Memory = (joined : List Entry) × IsJoin a b joined
ReportsJoin a b fault = RefusesJoin a b fault
