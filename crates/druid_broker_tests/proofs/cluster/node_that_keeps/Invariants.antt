use Rattle.std.proofs.Common.{◌≡◌}
use Rattle.druid_broker_tests.proofs.cluster.node_that_keeps.Given as goal

abbrev pub invariant-loop-one : goal.invariant-loop-one
invariant-loop-one g l = l.state.history.incarnation ≡ 1
