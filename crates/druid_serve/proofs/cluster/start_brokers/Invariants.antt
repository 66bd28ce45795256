use Rattle.std.proofs.Common.{◌≡◌, ◌+◌, vec_len}
use Rattle.druid_serve.proofs.cluster.start_brokers.Given as goal

abbrev pub invariant-loop-last : goal.invariant-loop-last
invariant-loop-last g l = vec_len l.standing + vec_len l.listening ≡ vec_len l.initial.listening

abbrev pub decreases-loop-last : goal.decreases-loop-last
decreases-loop-last g l = vec_len l.listening
