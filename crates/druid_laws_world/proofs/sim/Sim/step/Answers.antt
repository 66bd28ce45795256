use Rattle.druid_laws_world.specs.declared.event.SimFault.TheVariants as faults
use Rattle.druid_laws_world.proofs.SimLemmas.{exactly}
use Rattle.druid_laws_world.proofs.sim.Sim.step.Goals as goal

pub returns-clause-no_node : goal.returns-clause-no_node
returns-clause-no_node c = exactly _ _ _ _ faults.NoSuchNode (λ e. cc) c.happen.ensures.ok c.happen.ensures.reported

pub returns-clause-no_broker : goal.returns-clause-no_broker
returns-clause-no_broker c = exactly _ _ _ _ faults.NoSuchBroker (λ e. cc) c.happen.ensures.ok c.happen.ensures.reported

pub returns-clause-no_packet : goal.returns-clause-no_packet
returns-clause-no_packet c = exactly _ _ _ _ faults.NoSuchPacket (λ e. cc) c.happen.ensures.ok c.happen.ensures.reported

pub returns-clause-refused : goal.returns-clause-refused
returns-clause-refused c = exactly _ _ _ _ faults.Refused (λ e. cc) c.happen.ensures.ok c.happen.ensures.reported

pub returns-clause-no_assembly : goal.returns-clause-no_assembly
returns-clause-no_assembly c = exactly _ _ _ _ faults.NoAssembly (λ e. cc) c.happen.ensures.ok c.happen.ensures.reported
