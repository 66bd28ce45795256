use Rattle.std.proofs.Common.{[]}
use Rattle.druid_inventory.proofs.TransactionLemmas.{Begins-inserted, removed_again}
use Rattle.druid_inventory.proofs.transactions.begin_new.Goals as goal

pub returns-in-Ok-clause-ok : goal.returns-in-Ok-clause-ok
returns-in-Ok-clause-ok c =
    Begins-inserted c.args.edits.now c.insert.new.self c.args.source.now c.in_ok-name.name c.begin.result c.in_ok-empty.empty
    (record { source = c.args.source.now; held = [] }) c.in_ok-name.ensures.cases c.in-Ok.ensures.updates c.begin.ensures.now c.begin.ensures.before c.in_ok-empty.ensures

pub returns-clause-timelines : goal.returns-clause-timelines
returns-clause-timelines c =
    removed_again c.args.timelines.now c.put_place.new.timelines c.remove.new.self c.args.source.now c.requires.timelines c.in_ok-put_place.ensures.ok c.remove.ensures.updates
