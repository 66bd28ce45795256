use Rattle.std.proofs.Common.{◌↔◌, ℕ, IsTrue, take}
use Rattle.std.specs.BTreeSet.{contains}
use Rattle.druid_broker_scatter.specs.Pending.{StandsIn, at_cmp}
use Rattle.druid_broker_scatter.proofs.pending.places_of.Given as goal

abbrev pub invariant-loop-piece : goal.invariant-loop-piece
invariant-loop-piece l = (p : ℕ × ℕ) → IsTrue (contains at_cmp l.places p) ↔ StandsIn (take l.piece-index l.asked) p
