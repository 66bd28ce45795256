use Rattle.std.proofs.Common.{◌≡◌}
use Rattle.druid_broker_scatter.specs.Pending.{pieces_of}
use Rattle.druid_broker_scatter.proofs.pending.into_pieces.Given as goal

abbrev pub invariant-loop-piece : goal.invariant-loop-piece
invariant-loop-piece l = l.pieces.items ≡ pieces_of l.yielded
