use Rattle.std.proofs.Common.{subst}
use Rattle.std.specs.Result.{OnOk}
use Rattle.druid_timeline.specs.Holding.{Serving, held_of, AddsHeld}
use Rattle.druid_inventory.specs.Ways.{serving_in}
use Rattle.druid_inventory.proofs.changing_timeline.ChangingTimeline.add.Goals as goal

pub returns-clause-added : goal.returns-clause-added
returns-clause-added c =
    subst (λ (t : Serving). OnOk c.add_by.result (AddsHeld t.held (serving_in c.add_by.new.way).held (held_of c.args.node c.args.descriptor.now)))
    c.self.view_is c.add_by.ensures.added
