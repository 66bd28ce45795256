use Rattle.druid_laws_world.specs.declared.event.Event.TheVariants as events
use Rattle.druid_laws_world.specs.Run.{restarted}
use Rattle.std.proofs.Common.{arith}
use Rattle.druid_laws_world.proofs.SimLemmas.{ChangesNode, node_reached, node_ok, memory_reported, restarted_next}
use Rattle.druid_laws_world.proofs.sim.Sim.restart.Goals as goal

-- what becomes of the node
changes : (c : goal.After-self-1) → ChangesNode (record { world = c.self.inside.nodes.items; packets = c.self.inside.packets.items; brokers = c.self.inside.brokers.items; assemblies = c.self.inside.assemblies.items }) c.args.self.now (events.Restart c.args.node) c.args.node c.in-Some.at.now c.restart.new.self restarted c.restart.result
changes c = record {
  is = c.self.view_is;
  there = c.in-Some.ensures.value;
  held = c.index_mut.result.now;
  held_there = c.index_mut.ensures.value;
  next = restarted_next _ _ _ c.in-Some.ensures.value (omega arith);
  ok = c.restart.ensures.ok;
  err = c.restart.ensures.unchanged;
}

pub invariant_of-self : goal.invariant_of-self
invariant_of-self c = node_reached _ _ _ _ _ _ _ _ c.self.invariant (changes c)

pub returns-clause-ok : goal.returns-clause-ok
returns-clause-ok c = node_ok _ _ _ _ _ _ _ _ (changes c)

pub returns-clause-reported : goal.returns-clause-reported
returns-clause-reported c = memory_reported _ _ _ _ (changes c).next c.restart.ensures.memory
