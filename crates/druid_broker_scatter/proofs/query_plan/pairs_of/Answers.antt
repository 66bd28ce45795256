use Rattle.std.proofs.Common.{arith}
use Rattle.druid_broker_scatter.proofs.PlanLemmas.{one_more_piece}
use Rattle.druid_broker_scatter.proofs.query_plan.pairs_of.Goals as goal

pub loop-piece-preserved : goal.loop-piece-preserved
loop-piece-preserved c = record {
  asked = one_more_piece c.args.source.now c.args.pieces.now c.loop-piece.pairs.items c.add_pairs.new.pairs.items c.piece-item.result c.loop-piece.piece-index (omega arith) c.piece-item.is
      c.in_ok-add_pairs.ensures.asked c.loop-piece.invariant.asked;
  served = c.in_ok-add_pairs.ensures.served c.loop-piece.invariant.served;
}
