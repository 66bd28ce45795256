-- Lists: what they contain, elements that are replaced, copies, fronts, and numbers that rise.
use Rattle.std.proofs.Common.{◌≡◌, ◌⊎◌, ℕ, zero, suc, ◌+◌, ◌<◌, ◌++◌, List, [], ◌∷◌, length, map, set, get_or, Contains, Some, refl, sym, ap, ◌∙◌, subst, inl, inr, ⊎_elim, arith}
use Rattle.std.specs.List.{AllZip, slice_get}
use Rattle.std.specs.List.Sorted.{IsStrictlyIncreasing}
use Rattle.std.proofs.lemmas.List.{set-get_or}
use Rattle.std.proofs.lemmas.List.Kept.{AllPairs-from_increasing}
use Rattle.std.proofs.lemmas.Option.{get_or_from_slice_get, same_Some}

pub Contains-here : {A : Type 0} (x : A) (xs : List A) → Contains (x ∷ xs) x
Contains-here x xs = (0, omega arith, refl)

pub IsStrictlyIncreasing-tail : (x : ℕ) (xs : List ℕ) → IsStrictlyIncreasing (x ∷ xs) → IsStrictlyIncreasing xs
IsStrictlyIncreasing-tail x xs h = λ k within. let e : suc k + 1 ≡ suc (k + 1) = omega arith in
    subst (λ (n : ℕ). get_or (x ∷ xs) (suc k) 0 < get_or (x ∷ xs) n 0) e (h (suc k) (omega arith))

-- the first is below each later one
pub IsStrictlyIncreasing-first : (x : ℕ) (xs : List ℕ) (y : ℕ) → IsStrictlyIncreasing (x ∷ xs) → Contains xs y → x < y
IsStrictlyIncreasing-first x xs y h there =
    let up = AllPairs-from_increasing (x ∷ xs) h 0 (suc there.0) y (omega arith) (omega (arith, there.1)) in
    subst (λ (n : ℕ). x < n) there.2 up

-- ---- an element that is replaced

-- what is found, put back, changes nothing
pub set-found : {X : Type 0} (xs : List X) (i : ℕ) (x : X) → slice_get xs i ≡ Some x → set xs i x ≡ xs
set-found xs i x e = ap (λ (y : _). set xs i y) (sym (get_or_from_slice_get xs i x x e)) ∙ set-get_or xs i x

-- what is at a place after one was written
pub slice_get-set : {X : Type 0} (xs : List X) (j : ℕ) (v : X) (place : ℕ) (c : X) → slice_get (set xs j v) place ≡ Some c → (slice_get xs place ≡ Some c) ⊎ ((place ≡ j) × (v ≡ c))
slice_get-set [] j v place c e = inl e
slice_get-set (x ∷ xs) zero v zero c e = inr (refl, same_Some v c e)
slice_get-set (x ∷ xs) zero v (suc place) c e = inl e
slice_get-set (x ∷ xs) (suc j) v zero c e = inl e
slice_get-set (x ∷ xs) (suc j) v (suc place) c e = ⊎_elim (λ l. inl l) (λ r. inr (ap suc r.0, r.1)) (slice_get-set xs j v place c e)

-- ---- two lists

-- where f cannot tell copies apart
pub map-copied : {A B : Type 0} (f : A → B) (xs ys : List A) → AllZip (λ x y. f y ≡ f x) xs ys → map f ys ≡ map f xs
map-copied f [] [] h = refl
map-copied f [] (y ∷ ys) h = absurd h
map-copied f (x ∷ xs) [] h = absurd h
map-copied f (x ∷ xs) (y ∷ ys) h = λ i. h.0 i ∷ map-copied f xs ys h.1 i

-- lists that are alike are alike in fronts of one length, and after them
pub append-fronts : (xs ys us vs : List ℕ) → length xs ≡ length ys → xs ++ us ≡ ys ++ vs → (xs ≡ ys) × (us ≡ vs)
append-fronts [] [] us vs n e = (refl, e)
append-fronts [] (y ∷ ys) us vs n e = absurd (omega arith)
append-fronts (x ∷ xs) [] us vs n e = absurd (omega arith)
append-fronts (x ∷ xs) (y ∷ ys) us vs n e =
    let head : x ≡ y = cc in
    let tail : xs ++ us ≡ ys ++ vs = cc in
    let rest = append-fronts xs ys us vs (omega arith) tail in
    (λ i. head i ∷ rest.0 i, rest.1)
