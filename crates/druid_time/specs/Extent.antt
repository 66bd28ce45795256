-- An interval is the set of the instants from its start, included, to its end, left out.
use Rattle.std.specs.Prelude.{◌↔◌, ℕ, ◌<◌, ◌≤◌, max, min, List, [], ◌∷◌, All, ◌⊎◌, Option, Some, None, nat_lt, if◌then◌else◌}
use Rattle.druid_time.specs.Instant.{instant_count}

pub record Extent : Type 0 where
  pub start : ℕ
  pub end : ℕ

-- it is not empty, and ends at an instant
abbrev pub IsExtent : Extent → Type 0
IsExtent e = (e.start < e.end) × (e.end < instant_count)

-- t lies in it
abbrev pub Has : Extent → ℕ → Type 0
Has e t = (e.start ≤ t) × (t < e.end)

-- an instant lies in both
abbrev pub Share : Extent → Extent → Type 0
Share a b = (t : ℕ) × Has a t × Has b t

-- the instants of e are those of both a and b
abbrev pub IsMeet : Extent → Extent → Extent → Type 0
IsMeet a b e = (t : ℕ) → Has e t ↔ (Has a t × Has b t)

-- the instants of both, where there are any
abbrev pub common : Extent → Extent → Option Extent
common a b =
    if nat_lt (max a.start b.start) (min a.end b.end)
    then Some (record { start = max a.start b.start; end = min a.end b.end })
    else None

-- one ends before the next starts, and a gap lies between
abbrev pub AreApart : List Extent → Type 0
AreApart [] = Unit {0}
AreApart (a ∷ []) = Unit {0}
AreApart (a ∷ b ∷ more) = (a.end < b.start) × AreApart (b ∷ more)

-- t lies in one of them
abbrev pub AnyHas : List Extent → ℕ → Type 0
AnyHas [] t = ⊥
AnyHas (e ∷ more) t = Has e t ⊎ AnyHas more t

-- both lists have the same instants
abbrev pub SameInstants : List Extent → List Extent → Type 0
SameInstants xs ys = (t : ℕ) → AnyHas xs t ↔ AnyHas ys t

-- the parts of a set of instants: none is empty, each lies after the one before, with a gap between
pub record AreParts (parts : List Extent) : Type 0 where
  pub each : All IsExtent parts
  pub apart : AreApart parts
