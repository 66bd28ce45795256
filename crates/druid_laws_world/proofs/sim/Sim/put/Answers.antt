use Rattle.druid_laws_world.proofs.SimLemmas.{put_reached}
use Rattle.druid_laws_world.proofs.sim.Sim.put.Goals as goal

pub invariant_of-self : goal.invariant_of-self
invariant_of-self c = put_reached _ _ _ _ _ c.self.view_is c.self.invariant c.requires c.push.ensures.items
