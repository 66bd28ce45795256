-- A link whose exchanges are noted.
use Rattle.std.specs.Prelude.{ℕ}

-- the link, and the node to which it leads
pub record Monitored (L : Type 0) : Type 0 where
  pub link : L
  pub node : ℕ
