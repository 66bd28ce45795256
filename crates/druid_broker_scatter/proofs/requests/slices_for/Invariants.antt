use Rattle.std.proofs.Common.{◌≡◌, ℕ, take}
use Rattle.druid_broker_scatter.specs.Slices.{NoneEmpty, slices_of}
use Rattle.druid_broker_scatter.specs.Pending.{wanted_of}
use Rattle.druid_broker_scatter.proofs.requests.slices_for.Given as goal

abbrev pub invariant-loop-piece : goal.invariant-loop-piece
invariant-loop-piece l = record {
  wanted : (n : ℕ) → slices_of l.slices n ≡ wanted_of l.round (take l.piece-index l.waiting) n;
  none_empty : NoneEmpty l.slices;
}
