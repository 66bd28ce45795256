-- Elements that moved to other places.
use Rattle.std.proofs.Common.{◌≡◌, ◌⊎◌, ◌<◌, ℕ, List, length, get_or, refl, sym, ap, ◌∙◌, subst, inl, inr, arith}
use Rattle.std.specs.List.{swap}
use Rattle.std.specs.List.Sorted.{IsPermutation}
use Rattle.std.proofs.lemmas.Bool.{cases_eq}
use Rattle.std.proofs.lemmas.List.Edits.{length-swap, swapped_from_swap}
use Rattle.std.proofs.lemmas.List.Sorted.{IsPermutation-keeps}

-- the element at i stood at p before the places a and b were exchanged
abbrev Came : ℕ → ℕ → ℕ → ℕ → Type 0
Came a b i p =
    ((i ≡ a) × (p ≡ b)) ⊎ ((i ≡ b) × (p ≡ a)) ⊎ ((i ≡ a → ⊥) × (i ≡ b → ⊥) × (p ≡ i))

came_from : {X : Type 0} (xs : List X) (a b i : ℕ) (d : X) → a < length xs → b < length xs → i < length xs → (p : ℕ) × (p < length xs) × Came a b i p × (get_or (swap xs a b) i d ≡ get_or xs p d)
came_from xs a b i d la lb li =
    let moved = swapped_from_swap xs (swap xs a b) a b d la lb refl in
    elim (cases_eq i a) [
      | inl at_a ↦ (b, lb, inl (at_a, refl), ap (λ (n : ℕ). get_or (swap xs a b) n d) at_a ∙ moved.0)
      | inr not_a ↦ elim (cases_eq i b) [
        | inl at_b ↦ (a, la, inr (inl (at_b, refl)), ap (λ (n : ℕ). get_or (swap xs a b) n d) at_b ∙ moved.1)
        | inr not_b ↦ (i, li, inr (inr (not_a, not_b, refl)), moved.2 i not_a not_b)
      ]
    ]

came_alone : (a b i j p q : ℕ) → Came a b i p → Came a b j q → p ≡ q → i ≡ j
came_alone a b i j p q (inl x) (inl y) e = omega arith
came_alone a b i j p q (inl x) (inr (inl y)) e = omega arith
came_alone a b i j p q (inl x) (inr (inr y)) e = absurd (y.1 (sym y.2 ∙ sym e ∙ x.1))
came_alone a b i j p q (inr (inl x)) (inl y) e = omega arith
came_alone a b i j p q (inr (inl x)) (inr (inl y)) e = omega arith
came_alone a b i j p q (inr (inl x)) (inr (inr y)) e = absurd (y.0 (sym y.2 ∙ sym e ∙ x.1))
came_alone a b i j p q (inr (inr x)) (inl y) e = absurd (x.1 (sym x.2 ∙ e ∙ y.1))
came_alone a b i j p q (inr (inr x)) (inr (inl y)) e = absurd (x.0 (sym x.2 ∙ e ∙ y.1))
came_alone a b i j p q (inr (inr x)) (inr (inr y)) e = omega arith

-- no elements at two places stand in the relation
abbrev pub StandAlone : {X : Type 0} → (X → X → Type 0) → List X → Type 0
StandAlone {X} R xs = (i j : ℕ) (d : X) → i < length xs → j < length xs → R (get_or xs i d) (get_or xs j d) → i ≡ j

alone-swap : {X : Type 0} (R : X → X → Type 0) (xs : List X) (a b : ℕ) → a < length xs → b < length xs → StandAlone R xs → StandAlone R (swap xs a b)
alone-swap R xs a b la lb alone i j d li lj related =
    let len = length-swap xs a b in
    let from_i = came_from xs a b i d la lb (omega arith) in
    let from_j = came_from xs a b j d la lb (omega arith) in
    let before : R (get_or xs from_i.0 d) (get_or xs from_j.0 d) = subst (λ y. R (get_or xs from_i.0 d) y) from_j.3 (subst (λ x. R x (get_or (swap xs a b) j d)) from_i.3 related) in
    let one = alone from_i.0 from_j.0 d from_i.1 from_j.1 before in
    came_alone a b i j from_i.0 from_j.0 from_i.2 from_j.2 one

-- in whatever order they stand
pub alone-permutation : {X : Type 0} (R : X → X → Type 0) (xs ys : List X) → IsPermutation xs ys → StandAlone R xs → StandAlone R ys
alone-permutation R xs ys moved alone =
    IsPermutation-keeps xs (StandAlone R) alone (λ zs a b la lb. alone-swap R zs a b la lb) ys moved
