use Rattle.std.proofs.Common.{All, subst, sym, arith, refl}
use Rattle.std.proofs.lemmas.List.Elements.{All-push}
use Rattle.druid_broker_scatter.specs.Plan.{asked_of}
use Rattle.druid_broker_scatter.specs.Planned.{IsServedBy}
use Rattle.druid_broker_scatter.proofs.PlanLemmas.{one_more_asked, all_asked}
use Rattle.druid_broker_scatter.proofs.query_plan.add_pairs.Goals as goal

pub loop-partition-preserved : goal.loop-partition-preserved
loop-partition-preserved c = record {
  asked = one_more_asked c.args.source.now c.args.piece.now c.loop-partition.pairs.items c.push.new.self.items c.in_ok-pair_of.field-0 (asked_of c.args.pairs.now.items)
      c.loop-partition.partition-index _ 0 c.parts-partition-items.result.now c.parts-partition-items.ensures c.in_ok-push.ensures.items c.in_ok-pair_of.ensures.asked (omega arith)
      refl c.loop-partition.invariant.asked;
  served = λ before. subst (λ (ps : _). All (IsServedBy c.args.timeline.now) ps) (sym c.in_ok-push.ensures.items)
      (All-push (IsServedBy c.args.timeline.now) c.loop-partition.pairs.items c.in_ok-pair_of.field-0 (c.loop-partition.invariant.served before) c.in_ok-pair_of.ensures.served);
}

pub returns-clause-asked : goal.returns-clause-asked
returns-clause-asked c =
    all_asked c.args.source.now c.args.piece.now c.loop-partition.pairs.items (asked_of c.args.pairs.now.items) c.loop-partition.partition-index c.parts-partition-items.result.now
    c.parts-partition-items.ensures (omega arith) c.loop-partition.invariant.asked
