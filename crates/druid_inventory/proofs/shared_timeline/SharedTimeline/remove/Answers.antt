use Rattle.std.proofs.Common.{subst}
use Rattle.std.specs.Result.{OnOk}
use Rattle.druid_timeline.specs.Holding.{Serving, RemovesHeld}
use Rattle.druid_inventory.specs.Kept.{timeline_in}
use Rattle.druid_inventory.proofs.shared_timeline.SharedTimeline.remove.Goals as goal

pub returns-clause-removed : goal.returns-clause-removed
returns-clause-removed c =
    subst (λ (t : Serving). OnOk c.remove_from_kept.result (RemovesHeld t.held (timeline_in c.remove_from_kept.new.kept).held c.args.node c.args.id.now))
    c.self.view_is c.remove_from_kept.ensures.removed
