use Rattle.druid_laws_world.proofs.SimLemmas.{has_mark, node_within, seed_next, entry_reported}
use Rattle.druid_laws_world.proofs.sim.Sim.entry.Goals as goal

pub unreachable-requires : goal.unreachable-requires
unreachable-requires c = has_mark _ _ _ _ _ c.in-Some.ensures.reached c.in-Some.ensures.value c.in-Some-inventory.ensures.value c.in_default-mark.ensures

pub entry_of-requires : goal.entry_of-requires
entry_of-requires c = node_within _ _ _ _ _ c.in-Some.ensures.reached c.in-Some.ensures.value c.in-Some-inventory.ensures.value

pub returns-in-Ok-clause-ok : goal.returns-in-Ok-clause-ok
returns-in-Ok-clause-ok c = seed_next _ _ _ _ _ _ _ _ _ _ c.in-Some.ensures.value c.in-Some-inventory.ensures.value c.in-Some-inventory-2.ensures.value c.in-Some-mark.ensures (rw c.seed_ask.ensures at c.in-Ok.ensures.ok)

pub returns-in-Err-clause-reported : goal.returns-in-Err-clause-reported
returns-in-Err-clause-reported c = entry_reported _ _ _ _ _ _ _ _ _ _ c.in-Some.ensures.value c.in-Some-inventory.ensures.value c.in-Some-inventory-2.ensures.value c.in-Some-mark.ensures (rw c.seed_ask.ensures at c.in-Err.ensures.reported)
