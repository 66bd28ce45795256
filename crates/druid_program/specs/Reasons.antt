-- What is reported of an end.
use Rattle.std.specs.Prelude.{ℕ, Bool, true, false, List, [], ◌∷◌, ◌++◌, codes, Option, Some, None}
use Rattle.std.specs.Io.KnownBytes.{Appends}

-- the line of a reason, which is indented, if there is one
abbrev pub reason_line : Option (List ℕ) → List ℕ
reason_line None = []
reason_line (Some text) = codes "  " ++ text ++ 10 ∷ []

-- that line is reported, and nothing else; or, where ends are explained, that line and perhaps a reason below it
abbrev pub Reports : Bool → Option (List ℕ) → Option (List ℕ) → List ℕ → Type 0
Reports false old new line = Appends old new line
Reports true old new line = (reason : Option (List ℕ)) × Appends old new (line ++ reason_line reason)
