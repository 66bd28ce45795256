use Rattle.std.proofs.Common.{ap}
use Rattle.druid_query.specs.Asked.{Asked}
use Rattle.druid_broker_scatter.proofs.PlanLemmas.{served_new}
use Rattle.druid_broker_scatter.proofs.query_plan.pair_of.Goals as goal

pub returns-clause-served : goal.returns-clause-served
returns-clause-served c =
    served_new c.args.timeline.now c.new.result _ c.new-segment.result c.in_ok-nodes.nodes.items c.new.ensures (ap (λ (a : Asked). a.0) c.new-slice.ensures) c.in_ok-nodes.ensures.rising
    c.in_ok-nodes.ensures.nodes
