-- What the places of a publisher and its views know.
use Rattle.std.specs.Prelude.{◌≡◌, ℕ, true, false, List, []}
use Rattle.std.specs.Arc.{arc_value}
use mathlib.Core.Option.{some}
use lib.ListN.{get_elem?}
use Rattle.logbook.specs.Pages.{Book}
use Rattle.druid_inventory.specs.Entry.{Entry}
use Rattle.druid_inventory_views.specs.Fold.{fold_of}
use Rattle.druid_inventory_views.specs.declared.rule.Known.{Known}
use Rattle.druid_inventory_views.specs.declared.shown.Shown.{Shown}

-- a named place: its list, and the inventory that this began with
abbrev pub known : Book → List Entry → Known
known b opening =
    record { named = true; number = b.number; log_name = b.log_name; cells_name = b.cells_name; opening = opening }

abbrev pub unnamed : Known
unnamed = record { named = false; number = 0; log_name = 0; cells_name = 0; opening = [] }

-- a place that is named is of this list, which began with this inventory
abbrev pub IsOf : Book → List Entry → Known → Type 0
IsOf b opening v = v.named ≡ true → v ≡ known b opening

abbrev pub AllOf : Book → List Entry → List Known → Type 0
AllOf b opening views = (seat : ℕ) (v : Known) → get_elem? views seat ≡ some v → IsOf b opening v

-- what is shown is the fold_of of its list, from the inventory that each named place knows
abbrev pub Follows : Shown → List Known → Type 0
Follows s views =
    (opening : List Entry) × (arc_value s.inventory ≡ fold_of opening s.seen.log) × AllOf s.seen.book opening views

-- the place is named by a look at what is shown, and was of that list if it was named
abbrev pub Names : Known → Shown → Known → Type 0
Names v s w =
    (opening : List Entry) × (arc_value s.inventory ≡ fold_of opening s.seen.log)
    × (w ≡ known s.seen.book opening) × IsOf s.seen.book opening v

-- the two are of one inventory and one list
abbrev pub IsAlike : Shown → Shown → Type 0
IsAlike s t = (arc_value s.inventory ≡ arc_value t.inventory) × (s.seen ≡ t.seen)
