use Rattle.std.proofs.Common.{◌≡◌, map, replicate}
use Rattle.druid_inventory.specs.Entry.{fresh}
use Rattle.druid_laws_world.specs.Run.{node_names}
use Rattle.druid_laws_world.proofs.sim.fresh_inventories.Given as goal

abbrev pub invariant-loop-broker : goal.invariant-loop-broker
invariant-loop-broker l = l.made.items ≡ replicate l._broker (map fresh (node_names l.nodes))
