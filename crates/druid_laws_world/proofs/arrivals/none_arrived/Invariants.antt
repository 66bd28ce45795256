use Rattle.std.proofs.Common.{◌≡◌, None, replicate}
use Rattle.druid_laws_world.proofs.arrivals.none_arrived.Given as goal

abbrev pub invariant-loop-node : goal.invariant-loop-node
invariant-loop-node l = l.made.items ≡ replicate l._node None
