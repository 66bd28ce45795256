use Rattle.std.proofs.Common.{◌≡◌, Some, ap, sym, subst, ◌∙◌}
use Rattle.druid_segment_descriptor.specs.Replay.{IsSegmentSet}
use Rattle.druid_sync_history.specs.Kept.{Frozen}
use Rattle.druid_sync_history.proofs.HistoryLemmas.{frozen-kept}
use Rattle.druid_sync_history.proofs.history.History.page.Goals as goal

pub page_of-requires-clause-set : goal.page_of-requires-clause-set
page_of-requires-clause-set c =
    let kept = frozen-kept _ c.in-Some.frozen c.self.invariant c.in-Some.is in
    subst IsSegmentSet (sym (c.as_slice-set.ensures ∙ ap (λ (f : Frozen). f.set) c.frozen.view_is)) kept.0
