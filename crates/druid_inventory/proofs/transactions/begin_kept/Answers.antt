use Rattle.druid_inventory.proofs.TransactionLemmas.{Begins-inserted}
use Rattle.druid_inventory.proofs.transactions.begin_kept.Goals as goal

pub returns-in-Ok-clause-ok : goal.returns-in-Ok-clause-ok
returns-in-Ok-clause-ok c =
    Begins-inserted c.args.edits.now c.insert.new.self c.args.source.now c.in_ok-name.name c.begin.result c.in_ok-timeline.timeline c.args.place.now
    c.in_ok-name.ensures.cases c.in-Ok.ensures.updates c.begin.ensures.now c.begin.ensures.before c.in_ok-timeline.ensures.ok
