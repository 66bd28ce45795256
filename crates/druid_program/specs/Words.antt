-- What the program's arguments ask for.
use Rattle.std.specs.Prelude.{◌≡◌, ℕ, List, [], ◌∷◌, codes}

-- the one word `replay`
abbrev pub AsksForReplay : List (List ℕ) → Type 0
AsksForReplay words = words ≡ codes "replay" ∷ []

-- the words ask to serve the cluster of the config at a path
abbrev pub AsksForServe : List (List ℕ) → Type 0
AsksForServe words = (path : List ℕ) × (words ≡ codes "serve" ∷ path ∷ [])

-- the value of a variable that asks for reasons below what is reported
abbrev pub AsksForExplanation : List ℕ → Type 0
AsksForExplanation value = value ≡ codes "1"
