use Rattle.druid_inventory_views.proofs.FoldLemmas.{fold_names}
use Rattle.druid_inventory_views.proofs.laws.folds_keep_names.Goals as goal

pub returns : goal.returns
returns c = fold_names
