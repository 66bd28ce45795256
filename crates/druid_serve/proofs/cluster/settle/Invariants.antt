use Rattle.std.proofs.Common.{◌≡◌, ◌+◌, vec_len}
use Rattle.druid_serve.proofs.cluster.settle.Given as goal

abbrev pub invariant-loop-broker : goal.invariant-loop-broker
invariant-loop-broker g l = vec_len l.turns + vec_len l.standing ≡ vec_len l.initial.standing

abbrev pub decreases-loop-broker : goal.decreases-loop-broker
decreases-loop-broker g l = vec_len l.standing
