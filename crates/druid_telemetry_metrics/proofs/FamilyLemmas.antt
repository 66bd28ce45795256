-- Pairs of two lists.
use Rattle.std.proofs.Common.{◌≡◌, refl, ◌⊎◌, inl, inr, List, [], ◌∷◌, length, map, arith}
use Rattle.std.specs.List.{zip}

-- none, where one of the lists is empty
pub zip_ended : {A B X Y : Type 0} {P : X → Type 0} {Q : Y → Type 0} (xs : List A) (ys : List B)
    → ((x : X) × ((length xs ≡ 0) × P x)) ⊎ ((y : Y) × ((length ys ≡ 0) × Q y)) → zip xs ys ≡ []
zip_ended [] ys h = refl
zip_ended (x ∷ xs) [] h = refl
zip_ended (x ∷ xs) (y ∷ ys) (inl h) = absurd (omega (arith, h.1.0))
zip_ended (x ∷ xs) (y ∷ ys) (inr h) = absurd (omega (arith, h.1.0))

pub zip_map_ended : {A B C X Y : Type 0} {P : X → Type 0} {Q : Y → Type 0} (f : A → C) (xs : List A) (ys : List B)
    → ((x : X) × ((length xs ≡ 0) × P x)) ⊎ ((y : Y) × ((length ys ≡ 0) × Q y)) → zip (map f xs) ys ≡ []
zip_map_ended f [] ys h = refl
zip_map_ended f (x ∷ xs) [] h = refl
zip_map_ended f (x ∷ xs) (y ∷ ys) (inl h) = absurd (omega (arith, h.1.0))
zip_map_ended f (x ∷ xs) (y ∷ ys) (inr h) = absurd (omega (arith, h.1.0))
