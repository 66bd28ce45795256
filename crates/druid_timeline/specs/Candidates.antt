-- The best of some chunks at an instant: only proofs use this.
use Rattle.std.specs.Prelude.{◌≡◌, ℕ, List, ◌⊎◌, Contains}
use Rattle.druid_time.specs.Extent.{Has}
use Rattle.druid_segment_id.specs.Group.{Group, Outranks}

-- one of the chunks is g, and has the instant
abbrev pub IsCandidateOf : List Group → ℕ → Group → Type 0
IsCandidateOf chunks t g = Contains chunks g × Has g.interval t

-- of the chunks that have the instant, the one that outranks each other
pub record IsBestOf (chunks : List Group) (t : ℕ) (g : Group) : Type 0 where
  pub candidate : IsCandidateOf chunks t g
  pub greatest : (other : Group) → IsCandidateOf chunks t other → (other ≡ g) ⊎ Outranks g other
