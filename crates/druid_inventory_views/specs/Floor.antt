-- The marks of an inventory, and how they rise.
use Rattle.std.specs.Prelude.{◌≡◌, ℕ, true, List, length, map, Some, slice_get}
use Rattle.std.specs.Ordering.{is_lt}
use Rattle.druid_segment_descriptor.specs.Mark.{Point, mark_cmp}
use Rattle.druid_inventory.specs.Entry.{Entry}

-- the marks of the nodes, in their order
abbrev pub marks_of : List Entry → List Point
marks_of inventory = map (λ e. e.mark) inventory

-- the node has a mark below its floor
abbrev pub IsStaleAt : List Point → List Point → ℕ → Type 0
IsStaleAt floor marks node =
    (at found : Point) × (slice_get floor node ≡ Some at) × (slice_get marks node ≡ Some found) × (is_lt (mark_cmp found at) ≡ true)

-- of each node there is a mark that is not below its floor
abbrev pub Rises : List Point → List Point → Type 0
Rises floor marks = (length marks ≡ length floor) × ((node : ℕ) → IsStaleAt floor marks node → ⊥)
