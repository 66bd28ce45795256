-- How much is taken of a reader.
use Rattle.std.specs.Prelude.{◌≤◌, ℕ, List, length, Option}
use Rattle.std.specs.Io.KnownBytes.{Consumes}

-- known bytes lose so many at their front, at most
pub record TakesAtMost (most : ℕ) (before after : Option (List ℕ)) : Type 0 where
  pub front : List ℕ
  pub taken : Consumes before after front
  pub within : length front ≤ most
