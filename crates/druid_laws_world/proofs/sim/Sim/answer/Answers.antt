use Rattle.druid_laws_world.specs.declared.event.Event.TheVariants as events
use Rattle.druid_laws_world.proofs.SimLemmas.{asked_within, answer_next, replies, on_ok, if_memory, parts_same, next_reached, same_state}
use Rattle.druid_laws_world.proofs.sim.Sim.answer.Goals as goal

pub answer_in-requires : goal.answer_in-requires
answer_in-requires c = asked_within _ _ _ _ _ _ c.self.invariant c.in-Some-Request.ensures c.in-Some-Request.field-0-is

pub invariant_of-self : goal.invariant_of-self
invariant_of-self c =
    next_reached c.answer_in.result _ _ (events.Answer c.args.packet) c.self.invariant
    (on_ok c.answer_in.result _ _ (λ h. answer_next _ _ _ _ _ _ _ _ _ (same_state _) c.in-Some-Request.ensures c.in-Some-Request.field-0-is h) c.answer_in.ensures.ok)
    (parts_same c.answer_in.result _ _ _ c.answer_in.ensures.nodes c.answer_in.ensures.packets)

pub returns-clause-ok : goal.returns-clause-ok
returns-clause-ok c =
    on_ok c.answer_in.result _ _ (λ h. answer_next _ _ _ _ _ _ _ _ _ c.self.view_is c.in-Some-Request.ensures c.in-Some-Request.field-0-is h) c.answer_in.ensures.ok

pub returns-clause-reported : goal.returns-clause-reported
returns-clause-reported c =
    rw (← c.self.view_is)
    (if_memory c.answer_in.result _ (events.Answer c.args.packet)
    (replies _ _ _ _ _ _ c.self.invariant c.in-Some-Request.ensures c.in-Some-Request.field-0-is) c.answer_in.ensures.memory)
