use Rattle.std.proofs.Common.{◌≡◌}
use Rattle.druid_serve_node.proofs.node.place_tombstones.Given as goal

abbrev pub invariant-loop-place : goal.invariant-loop-place
invariant-loop-place g l = l.initial.seen.incarnation ≡ g.I.Incarnation.number → l.seen.incarnation ≡ g.I.Incarnation.number
