use Rattle.std.proofs.Common.{◌≡◌, take}
use Rattle.druid_telemetry_metrics.specs.Pieces.{joined}
use Rattle.druid_telemetry_metrics.proofs.text.join.Given as goal

abbrev pub invariant-loop-piece : goal.invariant-loop-piece
invariant-loop-piece l = l.text.items ≡ joined (take l.piece-index l.pieces)
