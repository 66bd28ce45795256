-- The rule of the list that threads share, and its step.
use Rattle.std.specs.Prelude.{ℕ, ◌≡◌, ◌==◌, true, List, [], ◌∷◌, ◌++◌, length, MatchBool}
use Rattle.logbook.specs.Pages.{Cell, Step, View, Book, Named}
use Rattle.druid_segment_descriptor.specs.declared.reply.Body.{Body}
use Rattle.druid_inventory_views.specs.Fold.{Published}

-- the first word is the length of the list. A book has two words, of which the second stays at 0
abbrev pub IsKept : List Cell → Published → Type 0
IsKept cells log = cells ≡ (length log, true) ∷ (0, true) ∷ []

-- the word of this book
abbrev pub head_of : Book → Named
head_of b = record { tracked = true; key = 0; book = b }

-- the pair was added to all that had been seen; or the list was longer, and was seen
abbrev pub Adds : Step (ℕ × Body) → View (ℕ × Body) ℕ → ℕ → View (ℕ × Body) ℕ → Type 0
Adds s v found w = MatchBool (found == s.old) (w.0 ≡ v.0 ++ s.ask ∷ []) (length w.0 ≡ found)
