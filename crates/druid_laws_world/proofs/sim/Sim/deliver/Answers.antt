use Rattle.druid_laws_world.specs.declared.event.Event.TheVariants as events
use Rattle.druid_laws_world.proofs.SimLemmas.{reply_within, reply_inventory_within, reply_pages_within, delivery_next, delivers, on_ok, if_memory, ends_same, next_reached, same_state}
use Rattle.druid_laws_world.proofs.sim.Sim.deliver.Goals as goal

pub deliver_in-requires-clause-broker : goal.deliver_in-requires-clause-broker
deliver_in-requires-clause-broker c = (reply_within _ _ _ _ _ _ c.self.invariant c.in-Some-Reply.ensures c.in-Some-Reply.field-0-is).0

pub deliver_in-requires-clause-assembly : goal.deliver_in-requires-clause-assembly
deliver_in-requires-clause-assembly c = (reply_within _ _ _ _ _ _ c.self.invariant c.in-Some-Reply.ensures c.in-Some-Reply.field-0-is).1

pub deliver_in-requires-clause-inventory : goal.deliver_in-requires-clause-inventory
deliver_in-requires-clause-inventory c = reply_inventory_within _ _ _ _ _ _ c.self.invariant c.in-Some-Reply.ensures c.in-Some-Reply.field-0-is

pub deliver_in-requires-clause-pages : goal.deliver_in-requires-clause-pages
deliver_in-requires-clause-pages c = reply_pages_within _ _ _ _ _ _ c.self.invariant c.in-Some-Reply.ensures c.in-Some-Reply.field-0-is

pub invariant_of-self : goal.invariant_of-self
invariant_of-self c =
    next_reached c.deliver_in.result _ _ (events.Deliver c.args.packet) c.self.invariant
    (on_ok c.deliver_in.result _ _ (λ h. delivery_next _ _ _ _ _ _ _ _ _ (same_state _) c.in-Some-Reply.ensures c.in-Some-Reply.field-0-is h) c.deliver_in.ensures.ok)
    (ends_same c.deliver_in.result _ _ _ c.deliver_in.ensures.brokers c.deliver_in.ensures.assemblies)

pub returns-clause-ok : goal.returns-clause-ok
returns-clause-ok c =
    on_ok c.deliver_in.result _ _ (λ h. delivery_next _ _ _ _ _ _ _ _ _ c.self.view_is c.in-Some-Reply.ensures c.in-Some-Reply.field-0-is h) c.deliver_in.ensures.ok

pub returns-clause-reported : goal.returns-clause-reported
returns-clause-reported c =
    rw (← c.self.view_is)
    (if_memory c.deliver_in.result _ (events.Deliver c.args.packet)
    (delivers _ _ _ _ _ _ c.self.invariant c.in-Some-Reply.ensures c.in-Some-Reply.field-0-is) c.deliver_in.ensures.memory)
