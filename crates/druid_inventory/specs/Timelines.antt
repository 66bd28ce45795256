-- The timelines over what nodes serve, as an inventory keeps them: only proofs use this.
use Rattle.std.specs.Prelude.{◌≡◌, ◌≢◌, ℕ, ◌≤◌, ◌⊎◌, Bool, IsTrue, IfSome, List, [], length, ◌↔◌, Option, None, Some, Contains}
use Rattle.std.specs.BTreeMap.{BTreeMap, get}
use Rattle.std.specs.Ordering.{nat_cmp}
use Rattle.std.specs.Cmp.Lexicographic.{slice_cmp}
use Rattle.druid_segment_descriptor.specs.Described.{Described}
use Rattle.druid_segment_descriptor.specs.Mark.{never}
use Rattle.druid_segment_descriptor.specs.Replay.{IsSegmentSet}
use Rattle.druid_segment_descriptor.specs.declared.change.Change.{Change}
use Rattle.druid_segment_descriptor.specs.declared.change.Change.TheVariants.{Load, Drop}
use Rattle.druid_timeline.specs.Holding.{Held, Serving, held_of, HoldsNothing, IsHeld, IsServed, AddsHeld, RemovesHeld}
use Rattle.druid_inventory.specs.Entry.{Entry, max_nodes}
use Rattle.druid_inventory.specs.Sources.{Serves}

-- the timeline that is kept of a source
abbrev pub kept : BTreeMap (List ℕ) Serving → List ℕ → Option Serving
kept timelines source = get (slice_cmp nat_cmp) timelines source

-- of all that is served, this is held of the source
abbrev pub IsHeldOf : (ℕ → Described → Type 0) → List ℕ → List Held → Type 0
IsHeldOf served source held =
    (x : Held) → Contains held x ↔ ((node : ℕ) × (d : Described) × served node d × (d.id.source ≡ source) × (x ≡ held_of node d))

-- of all that is served, this is the timeline of the source, of which some is served
pub record IsTimelineOf (served : ℕ → Described → Type 0) (source : List ℕ) (t : Serving) : Type 0 where
  pub of_source : t.source ≡ source
  pub some : (node : ℕ) × (d : Described) × served node d × (d.id.source ≡ source)
  pub held : IsHeldOf served source t.held

-- the timeline of the source, or nothing where nothing of it is served
abbrev pub IsKept : (ℕ → Described → Type 0) → List ℕ → Option Serving → Type 0
IsKept served source None = (node : ℕ) (d : Described) → served node d → d.id.source ≡ source → ⊥
IsKept served source (Some t) = IsTimelineOf served source t

-- of each source, the timeline of all that is served
pub record AreTimelines (served : ℕ → Described → Type 0) (timelines : BTreeMap (List ℕ) Serving) : Type 0 where
  pub each : (source : List ℕ) → IsKept served source (kept timelines source)

-- the timelines over these entries
abbrev pub AreTimelinesOf : List Entry → BTreeMap (List ℕ) Serving → Type 0
AreTimelinesOf entries timelines = AreTimelines (Serves entries) timelines

-- what is kept of a node: a set that it may serve, and an incarnation where it was synced
pub record IsEntry (e : Entry) : Type 0 where
  pub set : IsSegmentSet e.set
  pub incarnation : e.mark ≢ never → 1 ≤ e.mark.incarnation

-- what an inventory keeps: not too many entries, and the timelines over them
pub record IsInventory (entries : List Entry) (timelines : BTreeMap (List ℕ) Serving) : Type 0 where
  pub few : length entries ≤ max_nodes
  pub over : AreTimelinesOf entries timelines

-- what is held of a source
abbrev pub held_by : Option Serving → List Held
held_by None = []
held_by (Some t) = t.held

-- the timeline is of the source, and has no such segment of the node
pub record TakesSegment (source : List ℕ) (node : ℕ) (d : Described) (t : Serving) : Type 0 where
  pub of_source : t.source ≡ source
  pub new : IsHeld t.held node d.id → ⊥

-- the timeline of its source has the segment more, and the others stay
pub record AddsSegment (old new : BTreeMap (List ℕ) Serving) (node : ℕ) (d : Described) : Type 0 where
  pub here : (t : Serving) × (kept new d.id.source ≡ Some t) × (t.source ≡ d.id.source)
      × AddsHeld (held_by (kept old d.id.source)) t.held (held_of node d)
  pub others : (source : List ℕ) → (source ≡ d.id.source → ⊥) → kept new source ≡ kept old source

-- the timeline of its source is without the segment, and the others stay
pub record EditsOut (old new : BTreeMap (List ℕ) Serving) (node : ℕ) (d : Described) (is_empty : Bool) : Type 0 where
  pub here : (t : Serving) × (kept new d.id.source ≡ Some t) × (t.source ≡ d.id.source)
      × RemovesHeld (held_by (kept old d.id.source)) t.held node d.id × (IsTrue is_empty ↔ HoldsNothing t.held)
  pub others : (source : List ℕ) → (source ≡ d.id.source → ⊥) → kept new source ≡ kept old source

-- a timeline of what is left of a source, or none where nothing is
abbrev pub IsLeftOver : List ℕ → List Held → Option Serving → Type 0
IsLeftOver source held None = HoldsNothing held
IsLeftOver source held (Some t) = (t.source ≡ source) × (t.held ≡ held) × (HoldsNothing held → ⊥)

-- of the source of the segment all is left but the segment, and the other timelines stay
pub record RemovesSegment (old new : BTreeMap (List ℕ) Serving) (node : ℕ) (d : Described) : Type 0 where
  pub here : (held : List Held) × RemovesHeld (held_by (kept old d.id.source)) held node d.id
      × IsLeftOver d.id.source held (kept new d.id.source)
  pub others : (source : List ℕ) → (source ≡ d.id.source → ⊥) → kept new source ≡ kept old source

-- the timelines take the change
abbrev pub TakesChange : BTreeMap (List ℕ) Serving → ℕ → Change → Type 0
TakesChange timelines node (Load d) = IfSome (kept timelines d.id.source) (TakesSegment d.id.source node d)
TakesChange timelines node (Drop d) = (t : Serving) × (kept timelines d.id.source ≡ Some t) × IsServed t node d.id

-- a node serves these segments, and the others theirs
abbrev pub ServesThese : List Entry → ℕ → (Described → Type 0) → ℕ → Described → Type 0
ServesThese entries node these i d = ((i ≡ node) × these d) ⊎ ((i ≡ node → ⊥) × Serves entries i d)

-- a node has this set, and the others have theirs
abbrev pub ServesWith : List Entry → ℕ → List Described → ℕ → Described → Type 0
ServesWith entries node set = ServesThese entries node (Contains set)
