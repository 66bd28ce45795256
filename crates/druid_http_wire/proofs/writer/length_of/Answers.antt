use Rattle.std.proofs.Common.{arith}
use Rattle.druid_http_wire.proofs.WriteLemmas.{length_more, length_all}
use Rattle.druid_http_wire.proofs.writer.length_of.Goals as goal

pub loop-piece-preserved : goal.loop-piece-preserved
loop-piece-preserved c = (
  omega (arith, c.saturating_add-length.ensures),
  rw c.saturating_add-length.ensures (length_more c.args.pieces.now c.loop-piece.piece-index c.loop-piece.length _ _ c.loop-piece-test.true c.loop-piece.invariant.1),
)

pub returns : goal.returns
returns c = length_all c.args.pieces.now c.loop-piece.piece-index c.loop-piece.length _ c.loop-piece-test.false c.loop-piece.invariant.0 c.loop-piece.invariant.1
