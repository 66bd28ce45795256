use Rattle.std.proofs.Common.{◌≡◌, vec_len}
use Rattle.druid_serve.proofs.broker.followed_nodes.Given as goal

abbrev pub invariant-loop-place : goal.invariant-loop-place
invariant-loop-place l = vec_len l.followed ≡ l.place
