-- JSON lists read item by item.
use Rattle.std.specs.Prelude.{List, [], ◌∷◌, Option, Some}
use Rattle.serde_json.specs.Data.{Data, Items, no_items, item}
use Rattle.druid_base.specs.Options.{◌>>=◌}

-- what each item reads as, in order, where each reads
abbrev pub each_of : {A : Type 0} → (Data → Option A) → Items → Option (List A)
each_of f no_items = Some []
each_of f (item d ds) = do
  x ← f d
  xs ← each_of f ds
  Some (x ∷ xs)
