use Rattle.std.proofs.Common.{arith, ap, sym, ◌∙◌}
use Rattle.std.specs.Arc.{arc_value}
use Rattle.druid_inventory_views.specs.Fold.{fold_of}
use Rattle.druid_inventory_views.proofs.FoldLemmas.{fold_still}
use Rattle.druid_inventory_views.proofs.view.load_shown.Goals as goal

pub returns-in-Ok-clause-fold : goal.returns-in-Ok-clause-fold
returns-in-Ok-clause-fold g c =
    let opening = g.J.Publication.opening in
    fold_still opening (arc_value c.in-Ok.inventory) c.of-found.result c.longer-longer.result c.moved.result
    (c.in-Ok.ensures ∙ c.requires.fold ∙ ap (fold_of opening) (sym c.of-found.ensures))
    c.longer-longer.ensures.that c.moved.ensures (omega (arith, c.len.ensures))
