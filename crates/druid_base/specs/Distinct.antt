-- Texts of which none stands twice.
use Rattle.std.specs.Prelude.{◌≡◌, ◌<◌, ◌&&◌, ℕ, Bool, true, List, [], ◌∷◌, bytes_eq, length, not, slice_index_or}
use Rattle.std.specs.List.{list_any}

-- no text stands at two places
abbrev pub AreDistinct : List (List ℕ) → Type 0
AreDistinct texts =
    (i j : ℕ) (d : List ℕ) → i < length texts → j < length texts
    → slice_index_or texts i d ≡ slice_index_or texts j d → i ≡ j

-- the test of the same
abbrev pub are_distinct : List (List ℕ) → Bool
are_distinct [] = true
are_distinct (x ∷ xs) = not (list_any (bytes_eq x) xs) && are_distinct xs
