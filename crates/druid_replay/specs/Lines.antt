-- The lines of an input.
use Rattle.std.specs.Prelude.{◌==◌, ℕ, List, [], ◌∷◌, if◌then◌else◌}

-- a byte that stands before the first line
abbrev pub onto_first : ℕ → List (List ℕ) → List (List ℕ)
onto_first b [] = (b ∷ []) ∷ []
onto_first b (l ∷ ls) = (b ∷ l) ∷ ls

-- each line without its line feed; the last may lack one, and after a last line feed there is no line
abbrev pub lines_of : List ℕ → List (List ℕ)
lines_of [] = []
lines_of (b ∷ bs) = if b == 10 then [] ∷ lines_of bs else onto_first b (lines_of bs)
