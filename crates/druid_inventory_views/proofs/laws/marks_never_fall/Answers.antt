use Rattle.druid_inventory_views.proofs.RisesLemmas.{marks_rise}
use Rattle.druid_inventory_views.proofs.laws.marks_never_fall.Goals as goal

pub returns : goal.returns
returns c = marks_rise
