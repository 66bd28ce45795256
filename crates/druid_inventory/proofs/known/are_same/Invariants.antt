use Rattle.std.proofs.Common.{◌≡◌, ℕ, ◌<◌, get_or}
use Rattle.druid_segment_descriptor.specs.Described.{Described}
use Rattle.druid_inventory.proofs.known.are_same.Given as goal

abbrev pub invariant-loop-i : goal.invariant-loop-i
invariant-loop-i l = (k : ℕ) (d : Described) → k < l.i → get_or l.a k d ≡ get_or l.b k d
