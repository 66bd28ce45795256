use Rattle.druid_laws_world.proofs.NodeLemmas.{takes_reported}
use Rattle.druid_laws_world.proofs.node.Node.takes.Goals as goal

pub returns : goal.returns
returns c = rw (← c.self.view_is) (takes_reported _ _ _ _ _ _ c.self.invariant c.accepts.ensures)
