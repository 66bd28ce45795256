use Rattle.druid_laws_world.proofs.SimLemmas.{entry_memory}
use Rattle.druid_laws_world.proofs.sim.entry_of.Goals as goal

pub returns-in-Err-Memory : goal.returns-in-Err-Memory
returns-in-Err-Memory c = record {
  ok = tt;
  reported = entry_memory c.args.inventory.now c.args.node c.args.ask.now _ c.requires c.in-Err-Memory.field-0-is c.in-Err-Memory.ensures.not_synced;
}
