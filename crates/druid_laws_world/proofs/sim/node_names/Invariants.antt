use Rattle.std.proofs.Common.{◌≡◌, vec_len}
use Rattle.druid_laws_world.specs.Run.{node_names}
use Rattle.druid_laws_world.proofs.sim.node_names.Given as goal

abbrev pub invariant-loop-node : goal.invariant-loop-node
invariant-loop-node l = record { items : l.names.items ≡ node_names l.node; len : vec_len l.names ≡ l.node }
