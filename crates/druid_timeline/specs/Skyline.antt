-- Of the chunks that a sweep has passed, those that may be the best at an instant to come: only proofs use this.
use Rattle.std.specs.Prelude.{◌≡◌, ℕ, ◌<◌, ◌≤◌, List, [], ◌∷◌, ◌⊎◌, Contains}
use Rattle.std.specs.List.Sorted.{IsNonDecreasingBy}
use Rattle.druid_segment_id.specs.Group.{Group, Outranks}

-- none starts before one that stands before it
abbrev pub StartInOrder : List Group → Type 0
StartInOrder chunks = IsNonDecreasingBy (λ (g : Group). g.interval.start) chunks

-- each starts after the instant
abbrev pub StartLater : List Group → ℕ → Type 0
StartLater chunks t = (g : Group) → Contains chunks g → t < g.interval.start

-- each ends after the instant
abbrev pub EndLater : List Group → ℕ → Type 0
EndLater chunks t = (g : Group) → Contains chunks g → t < g.interval.end

-- b outranks a, and does not end later
abbrev pub StandsAfter : Group → Group → Type 0
StandsAfter a b = Outranks b a × (b.interval.end ≤ a.interval.end)

-- towards the back the rank rises and the end falls
abbrev pub IsSkyline : List Group → Type 0
IsSkyline [] = Unit {0}
IsSkyline (a ∷ more) = ((b : Group) → Contains more b → StandsAfter a b) × IsSkyline more

-- one of the chunks is as good as g, and does not end sooner
abbrev pub IsCovered : List Group → Group → Type 0
IsCovered chunks g = (s : Group) × Contains chunks s × ((g ≡ s) ⊎ Outranks s g) × (g.interval.end ≤ s.interval.end)

-- one of the chunks has the greatest rank, and none ends before it
pub record IsTop (chunks : List Group) (best : Group) : Type 0 where
  pub there : Contains chunks best
  pub rank : (g : Group) → Contains chunks g → (g ≡ best) ⊎ Outranks best g
  pub end : (g : Group) → Contains chunks g → best.interval.end ≤ g.interval.end

-- the skyline of the chunks before the rest, which have started at the instant: each of those has ended, or is covered
pub record IsSkylineOf (chunks rest sky : List Group) (t : ℕ) : Type 0 where
  pub among : (g : Group) → Contains sky g → Contains chunks g × (g.interval.start ≤ t)
  pub order : IsSkyline sky
  pub all : (g : Group) → Contains chunks g → Contains rest g ⊎ ((g.interval.end ≤ t) ⊎ IsCovered sky g)
