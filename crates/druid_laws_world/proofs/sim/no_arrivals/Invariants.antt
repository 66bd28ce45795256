use Rattle.std.proofs.Common.{◌≡◌, None, replicate}
use Rattle.druid_laws_world.proofs.sim.no_arrivals.Given as goal

abbrev pub invariant-loop-broker : goal.invariant-loop-broker
invariant-loop-broker l = l.made.items ≡ replicate l._broker (replicate l.nodes None)
