-- Reading lines one by one, part by part. Only proofs use these words.
use Rattle.std.specs.Prelude.{◌≡◌, ◌≢◌, ◌+◌, ◌≤◌, ◌<◌, ℕ, List, [], ◌∷◌, ◌++◌, All, length, Option, Some, IfSome}
use Rattle.std.specs.Io.KnownBytes.{Consumes}
use Rattle.druid_stream.specs.declared.lines.Part.{Part}
use Rattle.druid_stream.specs.declared.lines.Part.TheVariants.{More, Feed, Ended}
use Rattle.druid_http_wire.specs.Frame.{IsFramed, EndsInHead, IsLongHead}
use Rattle.druid_http_wire.specs.declared.frame.HeadEnd.{HeadEnd}
use Rattle.druid_http_wire.specs.declared.frame.HeadEnd.TheVariants as found

-- how the line ended that old grew by: at its line feed, at the end of the input, or with as many bytes as there was room for, after which
-- one more came; the first two where there was room
abbrev pub EndsAs : Part → (front : List ℕ) → ℕ → Option (List ℕ) → Option (List ℕ) → Type 0
EndsAs More front room before after = (more : List ℕ) × Consumes before after (front ++ more) × (room ≤ length front) × (room < length front + length more)
EndsAs Feed front room before after = Consumes before after (front ++ 10 ∷ []) × (length front < room)
EndsAs Ended front room before after = IfSome before (λ xs. (xs ≡ front) × (length front ≤ room))

pub record IsLine (part : Part) (old new : List ℕ) (room : ℕ) (before after : Option (List ℕ)) : Type 0 where
  pub front : List ℕ
  pub grown : new ≡ old ++ front
  pub plain : All (λ b. b ≢ 10) front
  pub ends : EndsAs part front room before after

-- what reading a head finds, what it keeps, and what it leaves
abbrev pub Finds : HeadEnd → List ℕ → List ℕ → Option (List ℕ) → Type 0
Finds found.Head input head after = (rest : List ℕ) × (after ≡ Some rest) × IsFramed input head rest
Finds found.Ended input head after = EndsInHead input
Finds found.TooLong input head after = IsLongHead input
