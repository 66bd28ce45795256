-- The nodes of a plan are places of the inventory, and what was asked is of the plan.
use Rattle.std.proofs.Common.{ℕ, ◌<◌, ◌≤◌, List, length, All, arith}
use Rattle.std.proofs.lemmas.List.Elements.{All-weaker}
use Rattle.std.proofs.lemmas.Option.{slice_get_within}
use Rattle.druid_inventory.specs.Entry.{Entry}
use Rattle.druid_query.specs.Query.{Query}
use Rattle.druid_query.proofs.AskedLemmas.{all_of_each}
use Rattle.druid_broker_scatter.specs.Plan.{Pair, IsReplica, AreReplicas, IsPlanOf}
use Rattle.druid_broker_scatter.specs.Rounds.{AreLinked}

module _ (inventory : List Entry) (count : ℕ) (few : length inventory ≤ count) where
  linked : (p : Pair) (node : ℕ) → IsReplica inventory p.asked.0 node → node < count
  linked p node (d, serves, is, rows) = let within = slice_get_within inventory node serves.0 serves.1 in omega (arith, few, within)

  all_linked : (p : Pair) → AreReplicas inventory p.asked.0 p.nodes → All (λ node. node < count) p.nodes
  all_linked p replicas = all_of_each (λ node. node < count) p.nodes (λ node there. linked p node ((replicas.all node).0 there))

  pub are_linked : (query : Query) (pairs : List Pair) → IsPlanOf inventory query pairs → AreLinked count pairs
  are_linked query pairs plan =
      All-weaker (λ p. AreReplicas inventory p.asked.0 p.nodes) (λ p. All (λ node. node < count) p.nodes) all_linked pairs plan.paired.replicas

-- ---- where memory was refused
