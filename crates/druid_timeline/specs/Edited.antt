-- One edit of a timeline.
use Rattle.std.specs.Prelude.{◌≡◌, ◌≢◌, ◌≤◌, ℕ, Bool, List, take, drop, ◌+◌, ◌++◌, ◌⊎◌, ◌↔◌, Contains, IsTrue}
use Rattle.druid_time.specs.Extent.{Extent, Has, Share}
use Rattle.druid_segment_id.specs.Group.{Group, Outranks}
use Rattle.druid_timeline.specs.Holding.{Held, IsCompleteIn}
use Rattle.druid_timeline.specs.Pieces.{Shown, AreRuns, Shows, ArePieces}

-- the list has each other complete chunk whose interval overlaps that of g
abbrev pub HasOthers : List Held → Group → List Group → Type 0
HasOthers held g others =
    (h : Group) → IsCompleteIn held h → h ≢ g → Share h.interval g.interval → Contains others h

-- all chunks but g are complete in both, or in neither
abbrev pub AreAlikeBut : List Held → List Held → Group → Type 0
AreAlikeBut old new g = (h : Group) → h ≢ g → IsCompleteIn old h ↔ IsCompleteIn new h

-- the pieces of each holding in which g is complete or not, as the flag says, and the other chunks are what they were
abbrev pub ArePiecesThen : List Held → Group → Bool → List Shown → Type 0
ArePiecesThen held g is_complete pieces =
    (new : List Held) → AreAlikeBut held new g → (IsTrue is_complete ↔ IsCompleteIn new g) → ArePieces new pieces

-- the list with those from one place to another replaced
abbrev pub spliced : {A : Type 0} → List A → ℕ → ℕ → List A → List A
spliced xs from to middle = take from xs ++ middle ++ drop to xs

-- so many from a place on, moved to the end
abbrev pub turned : {A : Type 0} → List A → ℕ → ℕ → List A
turned xs from count = take from xs ++ drop (from + count) xs ++ take count (drop from xs)

-- the instants of the one are instants of the other
abbrev pub IsWithin : Extent → Extent → Type 0
IsWithin part whole = (whole.start ≤ part.start) × (part.end ≤ whole.end)

-- where a chunk comes over runs, it is seen if it outranks what they show, or they show nothing; else what they show is
abbrev pub IsOverlaid : List Shown → Group → ℕ → Group → Type 0
IsOverlaid runs own t g =
    ((own ≡ g) × ((k : Group) → Shows runs t k → Outranks own k)) ⊎ (Shows runs t g × (Outranks own g → ⊥))

-- runs that show inside the part what is seen there, and outside it what the old ones show
pub record AreRunsEdited (part : Extent) (seen : ℕ → Group → Type 0) (old new : List Shown) : Type 0 where
  pub runs : AreRuns new
  pub inside : (t : ℕ) (g : Group) → Has part t → Shows new t g ↔ seen t g
  pub outside : (t : ℕ) (g : Group) → (Has part t → ⊥) → Shows new t g ↔ Shows old t g
