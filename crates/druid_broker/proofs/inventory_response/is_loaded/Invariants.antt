use Rattle.std.proofs.Common.{◌≡◌, drop}
use Rattle.druid_broker.specs.Routes.{is_loaded}
use Rattle.druid_broker.proofs.inventory_response.is_loaded.Given as goal

abbrev pub invariant-loop-node : goal.invariant-loop-node
invariant-loop-node l = is_loaded (drop l.node l.inventory) ≡ is_loaded l.inventory
