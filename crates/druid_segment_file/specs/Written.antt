-- What a writer got of a text, and what of it waits to be written.
use Rattle.std.specs.Prelude.{◌≡◌, ℕ, List, ◌++◌, Option}
use Rattle.std.specs.Io.KnownBytes.{Appends}

-- known bytes grew by the front of the text that stands before the rest
abbrev pub AppendsUpTo : Option (List ℕ) → Option (List ℕ) → List ℕ → List ℕ → Type 0
AppendsUpTo old new text rest = (front : List ℕ) × (text ≡ front ++ rest) × Appends old new front
