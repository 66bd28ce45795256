use Rattle.std.proofs.Common.{refl}
use Rattle.druid_inventory_views.proofs.PlaceLemmas.{stays}
use Rattle.druid_inventory_views.proofs.view.read_by.Goals as goal

pub enter_as-requires : goal.enter_as-requires
enter_as-requires g c x = stays _ _ x x refl
