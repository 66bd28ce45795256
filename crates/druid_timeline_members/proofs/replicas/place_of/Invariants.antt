use Rattle.std.proofs.Common.{◌<◌, ℕ, get_or}
use Rattle.druid_timeline_members.proofs.replicas.place_of.Given as goal

abbrev pub invariant-loop-i : goal.invariant-loop-i
invariant-loop-i l = (k : ℕ) → k < l.i → get_or l.nodes k 0 < l.node
