use Rattle.druid_inventory.proofs.TransactionLemmas.{HasPlace-written}
use Rattle.druid_inventory.proofs.transactions.put_place.Goals as goal

pub returns-clause-ok : goal.returns-clause-ok
returns-clause-ok c =
    HasPlace-written c.args.timelines.now c.insert.new.self c.args.source.now c.in_ok-name.name c.new.result c.in_ok-name.ensures.cases c.in_ok-insert.ensures.updates
