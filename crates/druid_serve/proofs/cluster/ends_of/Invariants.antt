use Rattle.std.proofs.Common.{◌≡◌, ◌+◌, vec_len}
use Rattle.druid_serve.proofs.cluster.ends_of.Given as goal

abbrev pub invariant-loop-loader : goal.invariant-loop-loader
invariant-loop-loader g l = vec_len l.ends + vec_len l.loaders ≡ vec_len l.initial.loaders

abbrev pub decreases-loop-loader : goal.decreases-loop-loader
decreases-loop-loader g l = vec_len l.loaders
