-- An exchange that was made over a link.
use Rattle.std.specs.Prelude.{ℕ, List}
use Rattle.druid_link.specs.Links.{Came}

-- what was sent, and what came back
pub record Exchanged : Type 0 where
  pub request : List ℕ
  pub came : Came
