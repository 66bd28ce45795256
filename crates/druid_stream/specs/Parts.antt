-- A line, read part by part.
use Rattle.std.specs.Prelude.{◌≡◌, ◌≢◌, ◌≤◌, ℕ, List, [], ◌∷◌, ◌++◌, All, length, Option}
use Rattle.std.specs.Io.KnownBytes.{Consumes, IsAtEnd}
use Rattle.druid_stream.specs.declared.lines.Part.{Part}
use Rattle.druid_stream.specs.declared.lines.Part.TheVariants.{More, Feed, Ended}

-- the line feed that is taken after what the line gets
abbrev pub feed_of : Part → List ℕ
feed_of More = []
feed_of Feed = 10 ∷ []
feed_of Ended = []

-- the line old grew to new by the bytes at the reader's front, which have no line feed
pub record IsPart (part : Part) (old new : List ℕ) (room : ℕ) (before after : Option (List ℕ)) : Type 0 where
  pub front : List ℕ
  pub grown : new ≡ old ++ front
  pub plain : All (λ b. b ≢ 10) front
  pub short : length front ≤ room
  pub taken : Consumes before after (front ++ feed_of part)
  pub ended : part ≡ Ended → IsAtEnd before
