-- The earliest instant of intervals, as it is found: only proofs use this.
use Rattle.std.specs.Prelude.{ℕ, min, List, [], ◌∷◌, Option, Some, None}
use Rattle.druid_time.specs.Extent.{Extent}
use Rattle.druid_partial.specs.Partials.{earliest}

abbrev pub first_of : List Extent → Option ℕ
first_of [] = None
first_of (e ∷ more) = Some (earliest (e ∷ more))

-- with one more
abbrev pub joined : Option ℕ → ℕ → Option ℕ
joined None t = Some t
joined (Some s) t = Some (min s t)
