use Rattle.druid_laws_world.proofs.SimLemmas.{asks_something, asks_at, asks_it, asks_none}
use Rattle.druid_laws_world.proofs.sim.Sim.request.Goals as goal

pub unreachable-requires : goal.unreachable-requires
unreachable-requires c = asks_something _ _ _ _ _ c.in-Some.ensures.reached c.in-Some.ensures.value c.in-Some-inventory.ensures.value c.in_default-next_ask.ensures

pub returns-in-Some-ask_of_kind-clause-ok : goal.returns-in-Some-ask_of_kind-clause-ok
returns-in-Some-ask_of_kind-clause-ok c =
    let at = asks_at _ _ _ _ _ _ _ c.in-Some.ensures.reached c.in-Some.ensures.value c.in-Some-inventory.ensures.value c.in-Some-next_ask.ensures c.mark_of_pages.ensures in
    asks_it _ _ _ _ _ _ _ _ _ c.in-Some.ensures.value c.in-Some-inventory.ensures.value at c.in-Some-ask_of_kind.ensures

pub returns-in-None-clause-reported : goal.returns-in-None-clause-reported
returns-in-None-clause-reported c =
    let at = asks_at _ _ _ _ _ _ _ c.in-Some.ensures.reached c.in-Some.ensures.value c.in-Some-inventory.ensures.value c.in-Some-next_ask.ensures c.mark_of_pages.ensures in
    asks_none _ _ _ _ _ _ _ _ c.in-Some.ensures.value c.in-Some-inventory.ensures.value at c.in-None.ensures
