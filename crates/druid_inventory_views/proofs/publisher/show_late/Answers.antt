use Rattle.std.proofs.Common.{◌≤◌, inl, inr, ap, length, subst, sym, ◌∙◌}
use Rattle.std.proofs.lemmas.Result.{IfOk-weaker}
use mathlib.Core.List.{IsPrefix}
use Rattle.druid_inventory_views.proofs.Beginnings.{prefix_self}
use Rattle.druid_inventory_views.proofs.FoldLemmas.{fold_begun}
use Rattle.druid_inventory_views.specs.Fold.{fold_of}
use Rattle.druid_inventory_views.proofs.publisher.show_late.Goals as goal

pub returns-then-moved-published-clause-shown : goal.returns-then-moved-published-clause-shown
returns-then-moved-published-clause-shown g c =
    let here = c.args.writer.desk.shown.value in
    let le : c.moved.result ≤ length here.seen.log =
    subst (λ n. c.moved.result ≤ n) (ap (λ s. s.count) c.published.ensures ∙ here.counted) c.if-moved-published.true in
    fold_begun g.J.Publication.opening c.args.seen.now here.seen.log c.moved.result c.moved.ensures le c.requires.begins

pub returns-in-Ok-clause-begins : goal.returns-in-Ok-clause-begins
returns-in-Ok-clause-begins g c = elim c.show.ensures.either [
  | inl whole ↦ subst (λ l. IsPrefix l c.args.seen.now) (sym (whole ∙ c.show_with.ensures.published)) (prefix_self c.args.seen.now)
  | inr same ↦ subst (λ l. IsPrefix l c.args.seen.now) (sym same) c.requires.begins
]

pub returns-in-Ok-clause-shown : goal.returns-in-Ok-clause-shown
returns-in-Ok-clause-shown g c =
    IfOk-weaker c.show.result.1 _ _ (λ done alike.
    ap (fold_of g.J.Publication.opening) (ap (λ s. s.log) alike.1 ∙ c.show_with.ensures.published)) c.show.ensures.shown
