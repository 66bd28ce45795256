use Rattle.std.proofs.Common.{ap, sym, subst}
use Rattle.std.specs.Result.{OnOk}
use Rattle.druid_timeline.specs.Holding.{Serving, held_of, AddsHeld}
use Rattle.druid_timeline_chunks.proofs.EditLemmas.{was_ok}
use Rattle.druid_inventory.specs.Kept.{timeline_in}
use Rattle.druid_inventory.proofs.EditLemmas.{borrowed_timeline}
use Rattle.druid_inventory.proofs.shared_timeline.add_to_kept.Goals as goal

pub returns-in_ok-timeline-in-Shared-clause-added : goal.returns-in_ok-timeline-in-Shared-clause-added
returns-in_ok-timeline-in-Shared-clause-added c =
    let borrowed = borrowed_timeline c.in_ok-timeline-in-Shared.timeline.now _ (timeline_in c.args.kept.now) c.in_ok-timeline-in-Shared.ensures.value (sym (ap timeline_in c.in-Shared.is)) in
    let written = c.make_mut.follows.holds c.add_absent.new.self (was_ok c.in_ok-timeline-in-Shared.was) in
    subst (λ (t : Serving). OnOk c.add_absent.result (AddsHeld (timeline_in c.args.kept.now).held t.held (held_of c.args.node c.args.descriptor.now))) (sym written)
    (subst (λ (t : Serving). OnOk c.add_absent.result (AddsHeld t.held c.add_absent.new.self.held (held_of c.args.node c.args.descriptor.now))) borrowed c.add_absent.ensures.added)

pub returns-in-Own-clause-added : goal.returns-in-Own-clause-added
returns-in-Own-clause-added c =
    subst (λ (t : Serving). OnOk c.add_absent-in-Own.result (AddsHeld t.held c.add_absent-in-Own.new.self.held (held_of c.args.node c.args.descriptor.now)))
    (sym (ap timeline_in c.in-Own.is)) c.add_absent-in-Own.ensures.added
