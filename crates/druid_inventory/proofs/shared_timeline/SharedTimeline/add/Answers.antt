use Rattle.std.proofs.Common.{subst}
use Rattle.std.specs.Result.{OnOk}
use Rattle.druid_timeline.specs.Holding.{Serving, held_of, AddsHeld}
use Rattle.druid_inventory.specs.Kept.{timeline_in}
use Rattle.druid_inventory.proofs.shared_timeline.SharedTimeline.add.Goals as goal

pub returns-clause-added : goal.returns-clause-added
returns-clause-added c =
    subst (λ (t : Serving). OnOk c.add_to_kept.result (AddsHeld t.held (timeline_in c.add_to_kept.new.kept).held (held_of c.args.node c.args.descriptor.now)))
    c.self.view_is c.add_to_kept.ensures.added
