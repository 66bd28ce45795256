use Rattle.druid_broker.proofs.PlanLemmas.{are_linked}
use Rattle.druid_refusal_tests.proofs.brokers.linked_plan.Goals as goal

pub returns : goal.returns
returns g c = are_linked c.args.inventory.now c.args.count c.requires c.args.query.now c.in-Ok.plan c.in-Ok.ensures.ok
