-- What each of several steps keeps, all of them keep.
use Rattle.std.proofs.Common.{List}
use Rattle.std.specs.List.{FoldsTo}
use Rattle.std.proofs.lemmas.Fn.{chained_keeps}

pub folds_keep : {A P : Type 0} (R : P → A → P → Type 0) (Keeps : P → P → Type 0) → ((p : P) → Keeps p p) → ((p q next : P) (x : A) → Keeps p q → R q x next → Keeps p next)
    → (xs : List A) (p q : P) → FoldsTo R p xs q → Keeps p q
folds_keep R Keeps same more xs p q ran = chained_keeps R (λ _ s. Keeps p s) (λ _ s x next kept step. more p s next x kept step) xs p q (same p) ran
