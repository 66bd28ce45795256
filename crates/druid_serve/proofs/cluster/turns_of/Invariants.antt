use Rattle.std.proofs.Common.{◌≡◌, ◌+◌, vec_len}
use Rattle.druid_serve.proofs.cluster.turns_of.Given as goal

abbrev pub invariant-loop-syncer : goal.invariant-loop-syncer
invariant-loop-syncer g l = vec_len l.ends + vec_len l.syncers ≡ vec_len l.initial.syncers

abbrev pub decreases-loop-syncer : goal.decreases-loop-syncer
decreases-loop-syncer g l = vec_len l.syncers
