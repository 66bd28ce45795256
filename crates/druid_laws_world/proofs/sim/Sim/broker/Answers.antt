use Rattle.druid_laws_world.proofs.SimLemmas.{known_true}
use Rattle.druid_laws_world.proofs.sim.Sim.broker.Goals as goal

pub returns-clause-true_of_the_world : goal.returns-clause-true_of_the_world
returns-clause-true_of_the_world c = known_true _ _ _ _ c.inventory.ensures.reached c.inventory.ensures.value
