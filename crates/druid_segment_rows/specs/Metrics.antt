-- The values of a metric: numbers, of which some are marked as null.
use Rattle.std.specs.Prelude.{ℤ, Bool, true, false, List, [], ◌∷◌, Option, Some, None}

-- each number, or null where it is marked; those past the marks are not
abbrev pub unless_null : List ℤ → List Bool → List (Option ℤ)
unless_null [] nulls = []
unless_null (n ∷ ns) [] = Some n ∷ unless_null ns []
unless_null (n ∷ ns) (true ∷ nulls) = None ∷ unless_null ns nulls
unless_null (n ∷ ns) (false ∷ nulls) = Some n ∷ unless_null ns nulls
