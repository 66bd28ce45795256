-- What the environment asks of the program.
use Rattle.std.specs.Prelude.{ℕ, Bool, List, Option}

-- whether what is wrong stands below a fault, and the text that names a part of a cluster
pub record Asked : Type 0 where
  pub explain : Bool
  pub part : Option (List ℕ)
