-- What lists contain: one put in, mapped and joined.
use Rattle.std.proofs.Common.{◌≡◌, ◌<◌, ◌⊎◌, ◌↔◌, ℕ, zero, suc, List, [], ◌∷◌, map, refl, sym, ap, subst, inl, inr, arith}
use Rattle.std.specs.List.{insert, flat_map, Contains}
use Rattle.std.proofs.lemmas.List.Elements.{Contains-append_cases, Contains-append_left, Contains-append_right}
use Rattle.std.proofs.lemmas.List.Sorted.{IsPermutation-insert, IsPermutation-sym, Contains-permutation}

pub Contains-insert : {X : Type 0} (xs : List X) (i : ℕ) (y x : X) → Contains (insert xs i y) x ↔ ((x ≡ y) ⊎ Contains xs x)
Contains-insert xs i y x = (
  λ there. cases (Contains-permutation (insert xs i y) (y ∷ xs) x (IsPermutation-sym _ _ (IsPermutation-insert xs i y)) there),
  λ either. Contains-permutation (y ∷ xs) (insert xs i y) x (IsPermutation-insert xs i y) (back either),
) where
  cases : Contains (y ∷ xs) x → (x ≡ y) ⊎ Contains xs x
  cases (zero, l, e) = inl (sym e)
  cases (suc k, l, e) = inr (k, omega arith, e)

  back : (x ≡ y) ⊎ Contains xs x → Contains (y ∷ xs) x
  back (inl same) = (0, omega arith, sym same)
  back (inr there) = (suc there.0, omega arith, there.2)

pub Contains-cons : {X : Type 0} (y : X) (xs : List X) (x : X) → Contains (y ∷ xs) x → (y ≡ x) ⊎ Contains xs x
Contains-cons y xs x (zero, l, e) = inl e
Contains-cons y xs x (suc k, l, e) = inr (k, omega arith, e)

pub Contains-later : {X : Type 0} (y : X) (xs : List X) (x : X) → Contains xs x → Contains (y ∷ xs) x
Contains-later y xs x there = (suc there.0, omega arith, there.2)

pub Contains-nil : {X : Type 0} (x : X) → Contains {X = X} [] x → ⊥
Contains-nil x there = let below : there.0 < 0 = there.1 in omega arith

pub Contains-map : {A B : Type 0} (f : A → B) (xs : List A) (y : B) → Contains (map f xs) y → (x : A) × Contains xs x × (f x ≡ y)
Contains-map f [] y there = absurd (Contains-nil y there)
Contains-map f (x ∷ xs) y there =
    elim (Contains-cons (f x) (map f xs) y there) [
      | inl here ↦ (x, (0, omega arith, refl), here)
      | inr later ↦ let found = Contains-map f xs y later in (found.0, Contains-later x xs found.0 found.1, found.2)
    ]

pub Contains-map_back : {A B : Type 0} (f : A → B) (xs : List A) (x : A) → Contains xs x → Contains (map f xs) (f x)
Contains-map_back f [] x there = absurd (Contains-nil x there)
Contains-map_back f (z ∷ xs) x there =
    elim (Contains-cons z xs x there) [
      | inl here ↦ (0, omega arith, ap f here)
      | inr later ↦ Contains-later (f z) (map f xs) (f x) (Contains-map_back f xs x later)
    ]

pub Contains-flat_map : {A B : Type 0} (f : A → List B) (xs : List A) (y : B) → Contains (flat_map f xs) y → (x : A) × Contains xs x × Contains (f x) y
Contains-flat_map f [] y there = absurd (Contains-nil y there)
Contains-flat_map f (x ∷ xs) y there =
    elim (Contains-append_cases (f x) (flat_map f xs) y there) [
      | inl here ↦ (x, (0, omega arith, refl), here)
      | inr later ↦ let found = Contains-flat_map f xs y later in (found.0, Contains-later x xs found.0 found.1, found.2)
    ]

pub Contains-flat_map_back : {A B : Type 0} (f : A → List B) (xs : List A) (x : A) (y : B) → Contains xs x → Contains (f x) y → Contains (flat_map f xs) y
Contains-flat_map_back f [] x y there inside = absurd (Contains-nil x there)
Contains-flat_map_back {A} {B} f (z ∷ xs) x y there inside =
    elim (Contains-cons z xs x there) [
      | inl here ↦ Contains-append_left (f z) (flat_map f xs) y (subst (λ (a : A). Contains (f a) y) (sym here) inside)
      | inr later ↦ Contains-append_right (f z) (flat_map f xs) y (Contains-flat_map_back f xs x y later inside)
    ]
