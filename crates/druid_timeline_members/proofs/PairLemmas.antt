-- Lists of numbers in order, and pairs of lists.
use Rattle.std.proofs.Common.{false, ◌≡◌, ◌+◌, ◌-◌, ◌<◌, ◌≤◌, ◌⊎◌, ◌↔◌, ℕ, zero, suc, List, [], ◌∷◌, length, get_or, map, refl, sym, ap, ◌∙◌, subst, inl, inr, arith}
use Rattle.std.specs.Bool.{IsTrue}
use Rattle.std.specs.List.{insert, remove, zip, Contains}
use Rattle.std.specs.List.Sorted.{IsStrictlyIncreasing, IsPermutation}
use Rattle.std.proofs.lemmas.Bool.{cases_order}
use Rattle.std.proofs.lemmas.List.{get_or_default, get_or-map, length-map}
use Rattle.std.proofs.lemmas.List.Edits.{length-insert, length-remove, get_or-insert_below, get_or-insert_at, get_or-insert_above, get_or-remove_below, get_or-remove_above}
use Rattle.std.proofs.lemmas.List.Kept.{AllPairs-from_increasing}
use Rattle.std.proofs.lemmas.List.Sorted.{IsPermutation-remove, IsPermutation-sym, Contains-permutation}
use Rattle.druid_base.proofs.MemberLemmas.{Contains-cons, Contains-later, Contains-map_back}
use Rattle.druid_timeline_members.specs.Slots.{Statement, Replica, Serves}

abbrev pub no_replica : Replica
no_replica = (0, record { core = 0; serves = false })

-- ---- a number at its place

abbrev pub AllBelow : List ℕ → ℕ → ℕ → Type 0
AllBelow xs i n = (k : ℕ) → k < i → get_or xs k 0 < n

at_insert : (xs : List ℕ) (i n k : ℕ) → i ≤ length xs → ((k < i) × (get_or (insert xs i n) k 0 ≡ get_or xs k 0)) ⊎ ((k ≡ i) × (get_or (insert xs i n) k 0 ≡ n)) ⊎ ((i < k) × (get_or (insert xs i n) k 0 ≡ get_or xs (k - 1) 0))
at_insert xs i n k li =
    elim (cases_order k i) [
      | inl level ↦ inr (inl (level, ap (λ (m : ℕ). get_or (insert xs i n) m 0) level ∙ get_or-insert_at xs i n 0 li))
      | inr (inl below) ↦ inl (below, get_or-insert_below xs i n 0 k below li)
      | inr (inr above) ↦
          let e : k ≡ k - 1 + 1 = omega arith in
          inr (inr (above, ap (λ (m : ℕ). get_or (insert xs i n) m 0) e ∙ get_or-insert_above xs i n 0 (k - 1) (omega arith) li))
    ]

pub rising-insert : (xs : List ℕ) (i n : ℕ) → IsStrictlyIncreasing xs → i ≤ length xs → AllBelow xs i n → (i < length xs → n < get_or xs i 0) → IsStrictlyIncreasing (insert xs i n)
rising-insert xs i n up li below above k lk =
    let len = length-insert xs i n li in
    by_place (at_insert xs i n k li) (at_insert xs i n (k + 1) li) where
      by_place : ((k < i) × (get_or (insert xs i n) k 0 ≡ get_or xs k 0)) ⊎ ((k ≡ i) × (get_or (insert xs i n) k 0 ≡ n)) ⊎ ((i < k) × (get_or (insert xs i n) k 0 ≡ get_or xs (k - 1) 0))
          → ((k + 1 < i) × (get_or (insert xs i n) (k + 1) 0 ≡ get_or xs (k + 1) 0)) ⊎ ((k + 1 ≡ i) × (get_or (insert xs i n) (k + 1) 0 ≡ n)) ⊎ ((i < k + 1) × (get_or (insert xs i n) (k + 1) 0 ≡ get_or xs (k + 1 - 1) 0))
          → get_or (insert xs i n) k 0 < get_or (insert xs i n) (k + 1) 0
      by_place (inl a) (inl b) = let u = up k (omega arith) in omega arith
      by_place (inl a) (inr (inl b)) = let u = below k a.0 in omega arith
      by_place (inl a) (inr (inr b)) = absurd (omega arith)
      by_place (inr (inl a)) (inl b) = absurd (omega arith)
      by_place (inr (inl a)) (inr (inl b)) = absurd (omega arith)
      by_place (inr (inl a)) (inr (inr b)) =
          let len = length-insert xs i n li in
          let e : get_or xs (k + 1 - 1) 0 ≡ get_or xs i 0 = let same : k + 1 - 1 ≡ i = omega arith in ap (λ (m : ℕ). get_or xs m 0) same in
          let u = above (omega arith) in omega arith
      by_place (inr (inr a)) (inl b) = absurd (omega arith)
      by_place (inr (inr a)) (inr (inl b)) = absurd (omega arith)
      by_place (inr (inr a)) (inr (inr b)) =
          let len = length-insert xs i n li in
          let e : get_or xs (k + 1 - 1) 0 ≡ get_or xs (k - 1 + 1) 0 = let same : k + 1 - 1 ≡ k - 1 + 1 = omega arith in ap (λ (m : ℕ). get_or xs m 0) same in
          let u = up (k - 1) (omega arith) in omega arith

-- a number between two neighbours is not there
pub absent_between : (xs : List ℕ) (i n : ℕ) → IsStrictlyIncreasing xs → AllBelow xs i n → (i < length xs → n < get_or xs i 0) → Contains xs n → ⊥
absent_between xs i n up below above there =
    let e : get_or xs there.0 0 ≡ n = sym (get_or_default xs there.0 n 0 there.1) ∙ there.2 in
    elim (cases_order there.0 i) [
      | inl level ↦
          let u = above (omega arith) in
          let same : get_or xs there.0 0 ≡ get_or xs i 0 = ap (λ (m : ℕ). get_or xs m 0) level in omega arith
      | inr (inl before) ↦ let u = below there.0 before in omega arith
      | inr (inr beyond) ↦
          let u = above (omega arith) in
          let v = AllPairs-from_increasing xs up i there.0 0 beyond there.1 in omega arith
    ]

-- ---- pairs of lists

pub zip-insert : {A B : Type 0} (xs : List A) (ys : List B) (i : ℕ) (a : A) (b : B) → length xs ≡ length ys → i ≤ length xs → zip (insert xs i a) (insert ys i b) ≡ insert (zip xs ys) i (a, b)
zip-insert xs ys zero a b e l = refl
zip-insert [] ys (suc i) a b e l = absurd (omega arith)
zip-insert (x ∷ xs) [] (suc i) a b e l = absurd (omega arith)
zip-insert (x ∷ xs) (y ∷ ys) (suc i) a b e l =
    ap (λ ps. (x, y) ∷ ps) (zip-insert xs ys i a b (omega arith) (omega arith))

pub map-zip : {A B : Type 0} (xs : List A) (ys : List B) → length xs ≡ length ys → map (λ (p : A × B). p.0) (zip xs ys) ≡ xs
map-zip [] ys e = refl
map-zip (x ∷ xs) [] e = absurd (omega arith)
map-zip (x ∷ xs) (y ∷ ys) e = ap (λ zs. x ∷ zs) (map-zip xs ys (omega arith))

pub remove-insert : {X : Type 0} (xs : List X) (i : ℕ) (y : X) → i ≤ length xs → remove (insert xs i y) i ≡ xs
remove-insert xs zero y l = refl
remove-insert [] (suc i) y l = absurd (omega arith)
remove-insert (x ∷ xs) (suc i) y l = ap (λ zs. x ∷ zs) (remove-insert xs i y (omega arith))

-- ---- a number taken out

pub zip-remove : {A B : Type 0} (xs : List A) (ys : List B) (i : ℕ) → length xs ≡ length ys → zip (remove xs i) (remove ys i) ≡ remove (zip xs ys) i
zip-remove [] [] zero e = refl
zip-remove [] [] (suc i) e = refl
zip-remove [] (y ∷ ys) i e = absurd (omega arith)
zip-remove (x ∷ xs) [] i e = absurd (omega arith)
zip-remove (x ∷ xs) (y ∷ ys) zero e = refl
zip-remove (x ∷ xs) (y ∷ ys) (suc i) e = ap (λ ps. (x, y) ∷ ps) (zip-remove xs ys i (omega arith))

pub map-remove : {A B : Type 0} (f : A → B) (xs : List A) (i : ℕ) → map f (remove xs i) ≡ remove (map f xs) i
map-remove f [] zero = refl
map-remove f [] (suc i) = refl
map-remove f (x ∷ xs) zero = refl
map-remove f (x ∷ xs) (suc i) = ap (λ ys. f x ∷ ys) (map-remove f xs i)

-- a number that is taken out of rising ones is there no more
pub absent-remove : (xs : List ℕ) (i n : ℕ) → IsStrictlyIncreasing xs → i < length xs → get_or xs i 0 ≡ n → Contains (remove xs i) n → ⊥
absent-remove xs i n up li at (k, l, e) =
    let len = length-remove xs i li in
    let here : get_or (remove xs i) k 0 ≡ n = sym (get_or_default (remove xs i) k n 0 l) ∙ e in
    elim (cases_order k i) [
      | inl level ↦
          let f = get_or-remove_above xs i 0 k (omega arith) li in
          let g = AllPairs-from_increasing xs up i (k + 1) 0 (omega arith) (omega arith) in
          omega arith
      | inr (inl below) ↦
          let f = get_or-remove_below xs i 0 k below li in
          let g = AllPairs-from_increasing xs up k i 0 below li in
          omega arith
      | inr (inr above) ↦
          let f = get_or-remove_above xs i 0 k (omega arith) li in
          let g = AllPairs-from_increasing xs up i (k + 1) 0 (omega arith) (omega arith) in
          omega arith
    ]

-- of pairs whose first numbers rise, all but those of the number that is taken out stay
pub Contains-remove : (ps : List Replica) (i n : ℕ) → IsStrictlyIncreasing (map (λ (p : Replica). p.0) ps) → i < length ps → get_or (map (λ (p : Replica). p.0) ps) i 0 ≡ n → (x : Replica)
    → Contains (remove ps i) x ↔ (Contains ps x × (x.0 ≡ n → ⊥))
Contains-remove ps i n up li at x = (forth, back) where
  out : Replica
  out = get_or ps i no_replica

  first : out.0 ≡ n
  first = sym (get_or-map (λ (p : Replica). p.0) ps i no_replica 0 li) ∙ at

  moved : IsPermutation ps (out ∷ remove ps i)
  moved = IsPermutation-remove ps i out li (get_or_default ps i no_replica out li)

  forth : Contains (remove ps i) x → Contains ps x × (x.0 ≡ n → ⊥)
  forth there = (
    Contains-permutation (out ∷ remove ps i) ps x (IsPermutation-sym _ _ moved) (Contains-later out (remove ps i) x there),
    λ same. absent-remove (map (λ (p : Replica). p.0) ps) i n up (subst (λ (k : ℕ). i < k) (sym (length-map ps (λ (p : Replica). p.0))) li) at
        (subst (λ (k : ℕ). Contains (remove (map (λ (p : Replica). p.0) ps) i) k) same
        (subst (λ (ks : List ℕ). Contains ks x.0) (map-remove (λ (p : Replica). p.0) ps i) (Contains-map_back (λ (p : Replica). p.0) (remove ps i) x there))),
  )

  back : Contains ps x × (x.0 ≡ n → ⊥) → Contains (remove ps i) x
  back (there, other) = elim (Contains-cons out (remove ps i) x (Contains-permutation ps (out ∷ remove ps i) x moved there)) [
    | inl same ↦ absurd (other (sym (ap (λ (p : Replica). p.0) same) ∙ first))
    | inr later ↦ later
  ]

-- the one that is taken out, and the others
pub Contains-taken : {X : Type 0} (xs : List X) (i : ℕ) (out : X) → i < length xs → out ≡ get_or xs i out → (x : X) → Contains xs x ↔ ((x ≡ out) ⊎ Contains (remove xs i) x)
Contains-taken {X} xs i out li at x = (forth, back) where
  moved : IsPermutation xs (out ∷ remove xs i)
  moved = IsPermutation-remove xs i out li at

  forth : Contains xs x → (x ≡ out) ⊎ Contains (remove xs i) x
  forth there = elim (Contains-cons out (remove xs i) x (Contains-permutation xs (out ∷ remove xs i) x moved there)) [
    | inl same ↦ inl (sym same)
    | inr later ↦ inr later
  ]

  back : (x ≡ out) ⊎ Contains (remove xs i) x → Contains xs x
  back (inl same) =
      Contains-permutation (out ∷ remove xs i) xs x (IsPermutation-sym _ _ moved) (0, omega arith, sym same)
  back (inr there) =
      Contains-permutation (out ∷ remove xs i) xs x (IsPermutation-sym _ _ moved) (Contains-later out (remove xs i) x there)

-- pairs whose first numbers rise are distinguished by them
pub rising-once : (ps : List Replica) → IsStrictlyIncreasing (map (λ (p : Replica). p.0) ps) → (x y : Replica) → Contains ps x → Contains ps y → x.0 ≡ y.0 → x ≡ y
rising-once ps up x y (i, li, ei) (j, lj, ej) same = elim (cases_order i j) [
  | inl level ↦ sym ei ∙ get_or_default ps i x y li ∙ ap (λ (k : ℕ). get_or ps k y) level ∙ ej
  | inr (inl below) ↦ absurd (let l = apart i j below lj in let a = at i x li ei in let b = at j y lj ej in omega arith)
  | inr (inr above) ↦ absurd (let l = apart j i above li in let a = at i x li ei in let b = at j y lj ej in omega arith)
] where
  firsts : List ℕ
  firsts = map (λ (p : Replica). p.0) ps

  at : (k : ℕ) (z : Replica) → k < length ps → get_or ps k z ≡ z → get_or firsts k 0 ≡ z.0
  at k z l e = get_or-map (λ (p : Replica). p.0) ps k z 0 l ∙ ap (λ (p : Replica). p.0) e

  apart : (k l : ℕ) → k < l → l < length ps → get_or firsts k 0 < get_or firsts l 0
  apart k l below short =
      AllPairs-from_increasing firsts up k l 0 below (subst (λ (n : ℕ). l < n) (sym (length-map ps (λ (p : Replica). p.0))) short)

-- of rising numbers, all but the one that is taken out stay
pub Contains-removed : (xs : List ℕ) (i n : ℕ) → IsStrictlyIncreasing xs → i < length xs → get_or xs i 0 ≡ n → (k : ℕ) → Contains (remove xs i) k ↔ (Contains xs k × (k ≡ n → ⊥))
Contains-removed xs i n up li at k =
    let taken = Contains-taken xs i n li (sym at ∙ get_or_default xs i 0 n li) k in (
      λ there. (taken.1 (inr there), λ same. absent-remove xs i k up li (at ∙ sym same) there),
      λ both. elim (taken.0 both.0) [
        | inl same ↦ absurd (both.1 same)
        | inr later ↦ later
      ],
    )

-- ---- the nodes that serve

pub Serves-adds : (old new : List Replica) (node : ℕ) (stated : Statement) → ((x : Replica) → Contains new x ↔ ((x ≡ (node, stated)) ⊎ Contains old x)) → (n : ℕ) → Serves new n ↔ (((n ≡ node) × IsTrue stated.serves) ⊎ Serves old n)
Serves-adds old new node stated added n = (forth, back) where
  forth : Serves new n → ((n ≡ node) × IsTrue stated.serves) ⊎ Serves old n
  forth (r, there, at_n, serves) = elim ((added r).0 there) [
    | inl same ↦ inl (sym at_n ∙ ap (λ (x : Replica). x.0) same, sym (ap (λ (x : Replica). x.1.serves) same) ∙ serves)
    | inr before ↦ inr (r, before, at_n, serves)
  ]

  back : ((n ≡ node) × IsTrue stated.serves) ⊎ Serves old n → Serves new n
  back (inl (same, serves)) = ((node, stated), (added (node, stated)).1 (inl refl), sym same, serves)
  back (inr (r, there, at_n, serves)) = (r, (added r).1 (inr there), at_n, serves)

pub Serves-removes : (old new : List Replica) (node : ℕ) → ((x : Replica) → Contains new x ↔ (Contains old x × (x.0 ≡ node → ⊥))) → (n : ℕ) → Serves new n ↔ (Serves old n × (n ≡ node → ⊥))
Serves-removes old new node removed n = (
  λ (r, there, at_n, serves).
      let was = (removed r).0 there in ((r, was.0, at_n, serves), λ same. was.1 (at_n ∙ same)),
  λ ((r, there, at_n, serves), other).
      (r, (removed r).1 (there, λ same. other (sym at_n ∙ same)), at_n, serves),
)

-- who serves is there
pub Serves-there : (rs : List Replica) (n : ℕ) → Serves rs n → Contains (map (λ (r : Replica). r.0) rs) n
Serves-there rs n (r, there, at_n, serves) =
    subst (λ (k : ℕ). Contains (map (λ (r : Replica). r.0) rs) k) at_n (Contains-map_back (λ (r : Replica). r.0) rs r there)
