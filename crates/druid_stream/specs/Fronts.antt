-- What a writer got of a text that was not written to its end.
use Rattle.std.specs.Prelude.{◌≡◌, ◌<◌, ℕ, List, ◌++◌, length, Option}
use Rattle.std.specs.Io.KnownBytes.{Appends}

-- known bytes grow by some front of the text, which is not the whole
abbrev pub AppendsFront : Option (List ℕ) → Option (List ℕ) → List ℕ → Type 0
AppendsFront old new text =
    (front back : List ℕ) × (text ≡ front ++ back) × (0 < length back) × Appends old new front
