use Rattle.std.proofs.Common.{sym, ap, ◌∙◌, drop}
use Rattle.std.specs.List.{slice_get}
use Rattle.std.specs.Option.{option_copied}
use Rattle.druid_sync_history.specs.Kept.{Kept}
use Rattle.druid_sync_history.proofs.HistoryLemmas.{copied-more, pushed-more}
use Rattle.druid_sync_history.proofs.history.History.changes_from.Goals as goal

pub loop-place-preserved : goal.loop-place-preserved
loop-place-preserved c =
    let place = c.loop-place.place in
    let found = sym (ap option_copied c.in-Some.is) ∙ c.get.ensures in
    let here = ap (λ (k : Kept). slice_get k.changes place) (sym c.self.view_is) ∙ sym found in
    let more = copied-more c.loop-place.copies.items c.args.self.now.changes (drop c.args.first c.args.self.now.changes) place c.in-Some.change.now here c.loop-place.invariant in
    pushed-more _ _ _ c.in-Some.change.now _ _ place c.in_ok-push.ensures.items c.in_ok-clone.ensures.cases more
