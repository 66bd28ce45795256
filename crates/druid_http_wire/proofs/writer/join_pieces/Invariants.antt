use Rattle.std.proofs.Common.{◌≡◌, take}
use Rattle.druid_http_wire.specs.Written.{joined}
use Rattle.druid_http_wire.proofs.writer.join_pieces.Given as goal

abbrev pub invariant-loop-piece : goal.invariant-loop-piece
invariant-loop-piece l = l.bytes.items ≡ joined (take l.piece-index l.pieces)
