-- The data sources of an inventory.
use Rattle.std.specs.Prelude.{◌≡◌, ℕ, List, ◌↔◌, Some, slice_get, Contains}
use Rattle.druid_segment_descriptor.specs.Described.{Described}
use Rattle.druid_timeline.specs.Holding.{Held, held_of}
use Rattle.druid_inventory.specs.Entry.{Entry}

-- a node serves this segment
abbrev pub Serves : List Entry → ℕ → Described → Type 0
Serves inventory node d = (e : Entry) × (slice_get inventory node ≡ Some e) × Contains e.set d

-- a node serves a segment of the source
abbrev pub HasSource : List Entry → List ℕ → Type 0
HasSource inventory source =
    (node : ℕ) × (d : Described) × Serves inventory node d × (d.id.source ≡ source)

-- the holding of the source: all pairs of a node and a descriptor of the source in that node's set
abbrev pub IsHoldingOf : List Entry → List ℕ → List Held → Type 0
IsHoldingOf inventory source held =
    (x : Held) → Contains held x
    ↔ ((node : ℕ) × (d : Described) × Serves inventory node d × (d.id.source ≡ source) × (x ≡ held_of node d))
