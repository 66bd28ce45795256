-- Which chunk is visible at an instant.
use Rattle.std.specs.Prelude.{◌≡◌, ℕ, List, ◌⊎◌}
use Rattle.druid_time.specs.Extent.{Has}
use Rattle.druid_segment_id.specs.Group.{Group, Outranks}
use Rattle.druid_timeline.specs.Holding.{Held, IsCompleteIn}

-- a complete chunk whose interval has the instant
pub record IsCandidate (held : List Held) (t : ℕ) (g : Group) : Type 0 where
  pub complete : IsCompleteIn held g
  pub has : Has g.interval t

-- of the candidates, the one that outranks each other
pub record IsVisible (held : List Held) (t : ℕ) (g : Group) : Type 0 where
  pub candidate : IsCandidate held t g
  pub greatest : (other : Group) → IsCandidate held t other → (other ≡ g) ⊎ Outranks g other

-- there is no candidate
abbrev pub NothingVisible : List Held → ℕ → Type 0
NothingVisible held t = (g : Group) → IsCandidate held t g → ⊥
