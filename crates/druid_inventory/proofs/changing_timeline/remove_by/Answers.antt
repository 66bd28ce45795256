use Rattle.std.proofs.Common.{ap, sym, subst}
use Rattle.std.specs.Result.{OnOk}
use Rattle.druid_timeline.specs.Holding.{Serving, RemovesHeld}
use Rattle.druid_inventory.specs.Ways.{serving_in}
use Rattle.druid_inventory.proofs.changing_timeline.remove_by.Goals as goal

pub returns-in-Edited-clause-removed : goal.returns-in-Edited-clause-removed
returns-in-Edited-clause-removed c =
    subst (λ (t : Serving). OnOk c.remove.result (RemovesHeld t.held c.remove.new.self.held c.args.node c.args.id.now))
    (sym (ap serving_in c.in-Edited.is)) c.remove.ensures.removed

pub returns-in-Swept-clause-removed : goal.returns-in-Swept-clause-removed
returns-in-Swept-clause-removed c =
    subst (λ (t : Serving). OnOk c.remove_present.result (RemovesHeld t.held c.remove_present.new.self.held c.args.node c.args.id.now))
    (sym (ap serving_in c.in-Swept.is)) c.remove_present.ensures.removed
