-- How the nodes stand before a query.
use Rattle.std.specs.Prelude.{ℕ}

-- how many nodes are remembered, how long an exchange may take, and the pause between two tries of one that ails, in milliseconds
pub record HealthValue : Type 0 where
  pub nodes : ℕ
  pub patience : ℕ
  pub pause : ℕ

-- the nodes that ail and are not tried, those that the query tries, each as the sum of the bits of its nodes, and when this was, in
-- milliseconds
pub record SnapshotValue : Type 0 where
  pub ailing : ℕ
  pub tried : ℕ
  pub at : ℕ
