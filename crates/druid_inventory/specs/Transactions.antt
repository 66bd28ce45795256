-- Timelines under edits that are committed or rolled back together: only proofs use this.
use Rattle.std.specs.Prelude.{◌≡◌, ℕ, List, Option, None, Some, IsSome}
use Rattle.std.specs.BTreeMap.{BTreeMap, get}
use Rattle.std.specs.Ordering.{nat_cmp}
use Rattle.std.specs.Cmp.Lexicographic.{slice_cmp}
use Rattle.druid_segment_id.specs.Group.{Group}
use Rattle.druid_timeline_chunks.specs.Chunks.{members_at}
use Rattle.druid_segment_descriptor.specs.Described.{Described}
use Rattle.druid_segment_descriptor.specs.declared.change.Change.{Change}
use Rattle.druid_segment_descriptor.specs.declared.change.Change.TheVariants.{Load, Drop}
use Rattle.druid_timeline.specs.Holding.{Held, Serving, held_of, members_of, IsServed, AddsHeld, RemovesHeld}
use Rattle.druid_timeline.specs.Transactions.{Edited}
use Rattle.druid_inventory.specs.Entry.{Entry}
use Rattle.druid_inventory.specs.Judged.{segment_of}
use Rattle.druid_inventory.specs.Timelines.{kept, IsHeldOf, IsKept, TakesSegment, IsLeftOver, ServesWith}

-- the edits of the source's timeline, if it is under edits
abbrev pub edited : BTreeMap (List ℕ) Edited → List ℕ → Option Edited
edited edits source = get (slice_cmp nat_cmp) edits source

-- after the edits, all that is served of the source is held
pub record IsAfter (served : ℕ → Described → Type 0) (source : List ℕ) (e : Edited) : Type 0 where
  pub of_source : e.now.source ≡ source
  pub held : IsHeldOf served source e.now.held

-- before the edits, all that was served of the source was held
pub record IsBefore (was : ℕ → Described → Type 0) (source : List ℕ) (e : Edited) : Type 0 where
  pub of_source : e.now.source ≡ source
  pub old : List Held
  pub held : IsHeldOf was source old
  pub members : (g : Group) → members_at e.before g ≡ members_of old g

-- a source under edits has a place among the timelines, and any other has its timeline there
abbrev pub IsEither : (ℕ → Described → Type 0) → (List ℕ → Edited → Type 0) → List ℕ → Option Edited → Option Serving → Type 0
IsEither served is source None place = IsKept served source place
IsEither served is source (Some e) place = IsSome place × is source e

-- the timelines of what is served, each among the timelines or under edits
pub record AreEither (served : ℕ → Described → Type 0) (is : List ℕ → Edited → Type 0)
    (timelines : BTreeMap (List ℕ) Serving) (edits : BTreeMap (List ℕ) Edited) : Type 0 where
  pub each : (source : List ℕ) → IsEither served is source (edited edits source) (kept timelines source)

-- where the node serves the set, these are the timelines after the edits
abbrev pub AreAfter : List Entry → ℕ → List Described → BTreeMap (List ℕ) Serving → BTreeMap (List ℕ) Edited → Type 0
AreAfter entries node set timelines edits = AreEither (ServesWith entries node set) (IsAfter (ServesWith entries node set)) timelines edits

-- where the node served the set, these were the timelines before the edits
abbrev pub AreBefore : List Entry → ℕ → List Described → BTreeMap (List ℕ) Serving → BTreeMap (List ℕ) Edited → Type 0
AreBefore entries node set timelines edits = AreEither (ServesWith entries node set) (IsBefore (ServesWith entries node set)) timelines edits

-- what is served after the edits stays
abbrev pub KeepsAfter : BTreeMap (List ℕ) Serving → BTreeMap (List ℕ) Edited → BTreeMap (List ℕ) Serving → BTreeMap (List ℕ) Edited → Type 0
KeepsAfter old before new after =
    (entries : List Entry) (node : ℕ) (set : List Described) → AreAfter entries node set old before → AreAfter entries node set new after

-- what was served before the edits stays
abbrev pub KeepsBefore : BTreeMap (List ℕ) Serving → BTreeMap (List ℕ) Edited → BTreeMap (List ℕ) Serving → BTreeMap (List ℕ) Edited → Type 0
KeepsBefore old before new after =
    (entries : List Entry) (node : ℕ) (set : List Described) → AreBefore entries node set old before → AreBefore entries node set new after

-- edits of the source begin, from this timeline
pub record Begins (old new : BTreeMap (List ℕ) Edited) (source : List ℕ) (t : Serving) : Type 0 where
  pub here : (e : Edited) × (edited new source ≡ Some e) × (e.now ≡ t) × ((g : Group) → members_at e.before g ≡ members_of t.held g)
  pub others : (s : List ℕ) → (s ≡ source → ⊥) → edited new s ≡ edited old s

-- the source has a place, and the timelines of the others stay
pub record HasPlace (old new : BTreeMap (List ℕ) Serving) (source : List ℕ) : Type 0 where
  pub here : IsSome (kept new source)
  pub others : (s : List ℕ) → (s ≡ source → ⊥) → kept new s ≡ kept old s

-- the timeline takes the change
abbrev pub TakesHeld : Serving → ℕ → Change → Type 0
TakesHeld t node (Load d) = TakesSegment d.id.source node d t
TakesHeld t node (Drop d) = IsServed t node d.id

-- what is held changes so
abbrev pub ChangesHeld : List Held → List Held → ℕ → Change → Type 0
ChangesHeld old new node (Load d) = AddsHeld old new (held_of node d)
ChangesHeld old new node (Drop d) = RemovesHeld old new node d.id

-- an edit leaves the source, and what was before the edits
pub record Goes (old new : Edited) : Type 0 where
  pub source : new.now.source ≡ old.now.source
  pub before : (g : Group) → members_at new.before g ≡ members_at old.before g

-- the source is under edits, and takes the change
abbrev pub TakesEdit : BTreeMap (List ℕ) Edited → ℕ → Change → Type 0
TakesEdit edits node c = (e : Edited) × (edited edits (segment_of c).id.source ≡ Some e) × TakesHeld e.now node c

-- the edits of the source go on in this way, and those of the others stay
pub record GoesOn (old new : BTreeMap (List ℕ) Edited) (source : List ℕ) (by : Edited → Edited → Type 0) : Type 0 where
  pub here : (a : Edited) × (b : Edited) × (edited old source ≡ Some a) × (edited new source ≡ Some b) × by a b
  pub others : (s : List ℕ) → (s ≡ source → ⊥) → edited new s ≡ edited old s

-- the edit is made
pub record Makes (node : ℕ) (c : Change) (old new : Edited) : Type 0 where
  pub goes : Goes old new
  pub held : ChangesHeld old.now.held new.now.held node c

-- the timeline of the source is this one, or none where nothing is held of it, and the others stay
pub record Settles (old new : BTreeMap (List ℕ) Serving) (source : List ℕ) (t : Serving) : Type 0 where
  pub here : IsLeftOver source t.held (kept new source)
  pub others : (s : List ℕ) → (s ≡ source → ⊥) → kept new s ≡ kept old s
