use Rattle.druid_laws_world.specs.declared.event.Event.TheVariants as events
use Rattle.druid_laws_world.proofs.SimLemmas.{memory_reported}
use Rattle.druid_laws_world.proofs.sim.Sim.seed.Goals as goal

pub put-requires : goal.put-requires
put-requires c = (events.Seed c.args.peer c.args.broker c.args.node c.args.page, c.in-Ok.ensures.ok)

pub returns-in-Ok-clause-reported : goal.returns-in-Ok-clause-reported
returns-in-Ok-clause-reported c = memory_reported _ _ _ (events.Seed c.args.peer c.args.broker c.args.node c.args.page) c.in-Ok.ensures.ok c.put.ensures.memory
