use Rattle.std.proofs.Common.{drop}
use Rattle.druid_http_wire.specs.Written.{joined}
use Rattle.druid_stream.proofs.WriteLemmas.{IsUnderWay}
use Rattle.druid_http_wire.proofs.writer.write_pieces.Given as goal

abbrev pub invariant-loop-piece : goal.invariant-loop-piece
invariant-loop-piece g l = IsUnderWay (joined l.pieces) (joined (drop l.piece-index l.pieces)) (g.W.Write.contents l.fn.writer) (g.W.Write.contents l.writer)
