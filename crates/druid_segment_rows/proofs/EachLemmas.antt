-- What holds of each element of a mapped list.
use Rattle.std.proofs.Common.{◌↔◌, List, map, subst}
use Rattle.std.specs.List.{All}
use Rattle.std.proofs.lemmas.List.{get_or-map, length-map}
use Rattle.std.proofs.lemmas.List.Elements.{All-map}

unmapped : {X Y : Type 0} (P : X → Type 0) (f : Y → X) (ys : List Y) → All P (map f ys) → All (λ y. P (f y)) ys
unmapped P f ys all k d h =
    subst P (get_or-map f ys k d (f d) h) (all k (f d) (rw length-map h))

pub All-mapped : {X Y : Type 0} (P : X → Type 0) (f : Y → X) (ys : List Y) → All P (map f ys) ↔ All (λ y. P (f y)) ys
All-mapped P f ys = (unmapped P f ys, All-map P f ys)
