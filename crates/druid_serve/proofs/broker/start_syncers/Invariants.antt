use Rattle.std.proofs.Common.{◌≡◌, ◌+◌, vec_len}
use Rattle.druid_serve.proofs.broker.start_syncers.Given as goal

abbrev pub invariant-loop-node : goal.invariant-loop-node
invariant-loop-node g l = (l.node + vec_len l.views ≡ vec_len l.initial.views) × (vec_len l.syncers ≡ l.node)
