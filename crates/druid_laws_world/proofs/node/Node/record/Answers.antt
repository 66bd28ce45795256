use Rattle.druid_laws_world.proofs.NodeLemmas.{accepted}
use Rattle.druid_laws_world.proofs.node.Node.record.Goals as goal

pub record_in-requires : goal.record_in-requires
record_in-requires c = accepted _ _ _ _ _ c.self.invariant (rw (← c.self.view_is) at c.requires)
