-- Which links a plan wants.
use Rattle.std.specs.Prelude.{ℕ, List, All, ◌<◌}
use Rattle.druid_broker_scatter.specs.Plan.{Pair}

-- each node of each pair has its link
abbrev pub AreLinked : ℕ → List Pair → Type 0
AreLinked count pairs = All (λ p. All (λ node. node < count) p.nodes) pairs
