use Rattle.std.proofs.Common.{sym, subst}
use Rattle.std.specs.Result.{OnOk}
use Rattle.druid_segment_id.specs.Identifier.{Identifier}
use Rattle.druid_segment_descriptor.specs.declared.change.Change.{Change}
use Rattle.druid_timeline.specs.Holding.{RemovesHeld}
use Rattle.druid_inventory.specs.Transactions.{ChangesHeld}
use Rattle.druid_inventory.proofs.transactions.change_transaction.Goals as goal

pub returns-in-Drop-clause-ok : goal.returns-in-Drop-clause-ok
returns-in-Drop-clause-ok c =
    let old = c.args.transaction.now.now.held in
    let new = c.remove_present.new.self.now.held in
    subst (λ (x : Change). OnOk c.remove_present.result (ChangesHeld old new c.args.node x)) (sym c.in-Drop.is)
    (subst (λ (id : Identifier). OnOk c.remove_present.result (RemovesHeld old new c.args.node id)) c.id.ensures.value c.remove_present.ensures.removed)
