use Rattle.std.proofs.Common.{subst}
use Rattle.std.specs.Result.{OnOk}
use Rattle.druid_timeline.specs.Holding.{Serving, RemovesHeld}
use Rattle.druid_inventory.specs.Ways.{serving_in}
use Rattle.druid_inventory.proofs.changing_timeline.ChangingTimeline.remove.Goals as goal

pub returns-clause-removed : goal.returns-clause-removed
returns-clause-removed c =
    subst (λ (t : Serving). OnOk c.remove_by.result (RemovesHeld t.held (serving_in c.remove_by.new.way).held c.args.node c.args.id.now))
    c.self.view_is c.remove_by.ensures.removed
