-- A body, read as it comes. Only proofs use these words.
use Rattle.std.specs.Prelude.{◌≡◌, ◌≤◌, ◌<◌, ℕ, Bool, true, false, List, ◌++◌, length, Option, Some}
use Rattle.std.specs.Io.KnownBytes.{Consumes, IsAtEnd}

-- old has grown by bytes at the reader's front; false where the input had ended
pub record IsTaken (more : Bool) (old new : List ℕ) (room : ℕ) (before after : Option (List ℕ)) : Type 0 where
  pub front : List ℕ
  pub grown : new ≡ old ++ front
  pub short : length front ≤ room
  pub taken : Consumes before after front
  pub ended : more ≡ false → IsAtEnd before

-- the body is so many bytes of the input, and the rest is left; or the input is shorter
abbrev pub EndsBody : Bool → List ℕ → ℕ → List ℕ → Option (List ℕ) → Type 0
EndsBody true input count body after = (rest : List ℕ) × (after ≡ Some rest) × (input ≡ body ++ rest) × (length body ≡ count)
EndsBody false input count body after = length input < count
