use Rattle.druid_inventory_views.proofs.FoldLemmas.{fold_steps}
use Rattle.druid_inventory_views.proofs.laws.folds_go_on.Goals as goal

pub returns : goal.returns
returns c = fold_steps
