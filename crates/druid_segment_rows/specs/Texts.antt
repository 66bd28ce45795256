-- Texts that stand one after another in one text, each up to an end.
use Rattle.std.specs.Prelude.{◌≡◌, ℕ, zero, suc, ◌≤◌, List, [], ◌∷◌, length, slice_range, slice_index_or}
use Rattle.std.specs.Str.{IsCharBoundary}

-- the texts between the ends, from a start on
abbrev pub texts_from : List ℕ → ℕ → List ℕ → List (List ℕ)
texts_from bytes start [] = []
texts_from bytes start (end ∷ ends) = slice_range bytes start end ∷ texts_from bytes end ends

-- the ends rise from a start on, where characters begin, and the last is that of the bytes
abbrev pub AreEnds : List ℕ → ℕ → List ℕ → Type 0
AreEnds bytes start [] = start ≡ length bytes
AreEnds bytes start (end ∷ ends) = (start ≤ end) × IsCharBoundary bytes end × AreEnds bytes end ends

-- where the text at a place begins
abbrev pub start_from : ℕ → List ℕ → ℕ → ℕ
start_from start ends zero = start
start_from start ends (suc place) = slice_index_or ends place 0
