use Rattle.std.proofs.Common.{ap, sym, subst}
use Rattle.std.specs.Result.{OnOk}
use Rattle.druid_timeline.specs.Holding.{Serving, RemovesHeld}
use Rattle.druid_timeline_chunks.proofs.EditLemmas.{was_ok}
use Rattle.druid_inventory.specs.Kept.{timeline_in}
use Rattle.druid_inventory.proofs.EditLemmas.{borrowed_timeline}
use Rattle.druid_inventory.proofs.shared_timeline.remove_from_kept.Goals as goal

pub returns-in_ok-timeline-in-Shared-clause-removed : goal.returns-in_ok-timeline-in-Shared-clause-removed
returns-in_ok-timeline-in-Shared-clause-removed c =
    let borrowed = borrowed_timeline c.in_ok-timeline-in-Shared.timeline.now _ (timeline_in c.args.kept.now) c.in_ok-timeline-in-Shared.ensures.value (sym (ap timeline_in c.in-Shared.is)) in
    let written = c.make_mut.follows.holds c.remove_present.new.self (was_ok c.in_ok-timeline-in-Shared.was) in
    subst (λ (t : Serving). OnOk c.remove_present.result (RemovesHeld (timeline_in c.args.kept.now).held t.held c.args.node c.args.id.now)) (sym written)
    (subst (λ (t : Serving). OnOk c.remove_present.result (RemovesHeld t.held c.remove_present.new.self.held c.args.node c.args.id.now)) borrowed c.remove_present.ensures.removed)

pub returns-in-Own-clause-removed : goal.returns-in-Own-clause-removed
returns-in-Own-clause-removed c =
    subst (λ (t : Serving). OnOk c.remove_present-in-Own.result (RemovesHeld t.held c.remove_present-in-Own.new.self.held c.args.node c.args.id.now))
    (sym (ap timeline_in c.in-Own.is)) c.remove_present-in-Own.ensures.removed
