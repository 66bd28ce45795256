use Rattle.std.proofs.Common.{◌≡◌, replicate}
use Rattle.druid_laws_world.specs.Run.{newborn}
use Rattle.druid_laws_world.proofs.sim.newborn_nodes.Given as goal

abbrev pub invariant-loop-node : goal.invariant-loop-node
invariant-loop-node l = l.made.items ≡ replicate l._node (newborn l.kept)
