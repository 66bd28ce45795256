use Rattle.std.proofs.Common.{arith}
use Rattle.druid_broker_scatter.proofs.WaitLemmas.{most_more, most_all}
use Rattle.druid_broker_scatter.proofs.pending.most_nodes.Goals.{then-most-count, else-most-count}
use Rattle.druid_broker_scatter.proofs.pending.most_nodes.Goals as goal

pub loop-piece-preserved : goal.loop-piece-preserved
loop-piece-preserved c =
    elim c.if-most-count.branch [
      | then-most-count w ↦ most_more c.args.waiting.now c.loop-piece.piece-index c.loop-piece.most c.if-most-count.most c.piece-item.result (omega arith) c.piece-item.is
          (omega arith) (omega arith) c.loop-piece.invariant
      | else-most-count w ↦ most_more c.args.waiting.now c.loop-piece.piece-index c.loop-piece.most c.if-most-count.most c.piece-item.result (omega arith) c.piece-item.is
          (omega arith) (omega arith) c.loop-piece.invariant
    ]

pub returns : goal.returns
returns c = most_all c.args.waiting.now c.loop-piece.piece-index c.loop-piece.most (omega arith) c.loop-piece.invariant
