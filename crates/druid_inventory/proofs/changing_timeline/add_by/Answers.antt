use Rattle.std.proofs.Common.{ap, sym, subst}
use Rattle.std.specs.Result.{OnOk}
use Rattle.druid_timeline.specs.Holding.{Serving, held_of, AddsHeld}
use Rattle.druid_inventory.specs.Ways.{serving_in}
use Rattle.druid_inventory.proofs.changing_timeline.add_by.Goals as goal

pub returns-in-Edited-clause-added : goal.returns-in-Edited-clause-added
returns-in-Edited-clause-added c =
    subst (λ (t : Serving). OnOk c.add.result (AddsHeld t.held c.add.new.self.held (held_of c.args.node c.args.descriptor.now)))
    (sym (ap serving_in c.in-Edited.is)) c.add.ensures.added

pub returns-in-Swept-clause-added : goal.returns-in-Swept-clause-added
returns-in-Swept-clause-added c =
    subst (λ (t : Serving). OnOk c.add_absent.result (AddsHeld t.held c.add_absent.new.self.held (held_of c.args.node c.args.descriptor.now)))
    (sym (ap serving_in c.in-Swept.is)) c.add_absent.ensures.added
