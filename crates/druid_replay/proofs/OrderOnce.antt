-- A list in strict order is determined by what it contains.
use Rattle.std.proofs.Common.{◌≡◌, ℕ, ◌+◌, ◌<◌, suc, List, [], ◌∷◌, get_or, ◌⊎◌, inl, inr, refl, sym, ap, subst, ◌∙◌, arith}
use Rattle.std.specs.List.{Contains}
use Rattle.std.specs.List.Sorted.{IsStrictlyIncreasing, IsPermutation}
use Rattle.std.proofs.lemmas.Cmp.{nat_list_cmp_total, tied_itself}
use Rattle.std.proofs.lemmas.List.Sorted.{Contains-permutation, IsPermutation-sym}
use Rattle.druid_base.proofs.ListLemmas.{Contains-here, IsStrictlyIncreasing-tail, IsStrictlyIncreasing-first}
use Rattle.druid_segment_id.specs.Identifier.{identifier_text}
use Rattle.druid_segment_descriptor.specs.Described.{Described}
use Rattle.druid_segment_descriptor.specs.Reply.{IsBefore, AreSorted}
use Rattle.druid_base.proofs.MemberLemmas.{Contains-cons, Contains-later, Contains-nil}
use Rattle.druid_segment_descriptor.proofs.SortedLemmas.{AreSorted-later}

-- an order of lists: the first comes before each later one, never the other way round
pub record IsStrict {A : Type 0} (R : A → A → Type 0) (Rising : List A → Type 0) : Type 0 where
  pub apart : (x y : A) → R x y → R y x → ⊥
  pub later : (x : A) (xs : List A) (d : A) → Rising (x ∷ xs) → Contains xs d → R x d
  pub tail : (x : A) (xs : List A) → Rising (x ∷ xs) → Rising xs

heads : {A : Type 0} (R : A → A → Type 0) (Rising : List A → Type 0) → IsStrict R Rising → (x y : A) (xs ys : List A) → Rising (x ∷ xs) → Rising (y ∷ ys)
    → (y ≡ x) ⊎ Contains ys x → (x ≡ y) ⊎ Contains xs y → x ≡ y
heads R Rising strict x y xs ys hx hy (inl same) b = sym same
heads R Rising strict x y xs ys hx hy (inr there) (inl same) = same
heads R Rising strict x y xs ys hx hy (inr there) (inr here) = absurd (strict.apart x y (strict.later x xs y hx here) (strict.later y ys x hy there))

tails : {A : Type 0} (R : A → A → Type 0) (Rising : List A → Type 0) → IsStrict R Rising → (x y d : A) (xs ys : List A) → Rising (x ∷ xs) → x ≡ y → Contains xs d → (y ≡ d) ⊎ Contains ys d → Contains ys d
tails R Rising strict x y d xs ys hx same there (inl is) =
    let before : R x d = strict.later x xs d hx there in
    let one : x ≡ d = same ∙ is in
    absurd (strict.apart x d before (subst (λ z. R z x) one (subst (λ z. R x z) (sym one) before)))
tails R Rising strict x y d xs ys hx same there (inr rest) = rest

pub once : {A : Type 0} (R : A → A → Type 0) (Rising : List A → Type 0) → IsStrict R Rising → (xs ys : List A) → Rising xs → Rising ys
    → ((d : A) → Contains xs d → Contains ys d) → ((d : A) → Contains ys d → Contains xs d) → xs ≡ ys
once R Rising strict [] [] hx hy to from = refl
once R Rising strict [] (y ∷ ys) hx hy to from = absurd (Contains-nil y (from y (Contains-here y ys)))
once R Rising strict (x ∷ xs) [] hx hy to from = absurd (Contains-nil x (to x (Contains-here x xs)))
once R Rising strict (x ∷ xs) (y ∷ ys) hx hy to from =
    let same = heads R Rising strict x y xs ys hx hy (Contains-cons y ys x (to x (Contains-here x xs))) (Contains-cons x xs y (from y (Contains-here y ys))) in
    let rest = once R Rising strict xs ys (strict.tail x xs hx) (strict.tail y ys hy)
    (λ d there. tails R Rising strict x y d xs ys hx same there (Contains-cons y ys d (to d (Contains-later x xs d there))))
    (λ d there. tails R Rising strict y x d ys xs hy (sym same) there (Contains-cons x xs d (from d (Contains-later y ys d there)))) in
    ap (λ z. z ∷ xs) same ∙ ap (λ zs. y ∷ zs) rest

-- ---- by identifier

not_both : (a b : Described) → IsBefore a b → IsBefore b a → ⊥
not_both a b before back =
    let round = nat_list_cmp_total.trans (identifier_text a.id) (identifier_text b.id) (identifier_text a.id) before back in
    let tied = tied_itself nat_list_cmp_total (identifier_text a.id) in
    absurd (cc (round, tied))

before_later : (x : Described) (xs : List Described) (d : Described) → AreSorted (x ∷ xs) → Contains xs d → IsBefore x d
before_later x xs d h there =
    let e : 0 + suc there.0 ≡ suc there.0 = omega arith in
    let before = AreSorted-later (x ∷ xs) h 0 there.0 d (omega (arith, there.1)) in
    let before' : IsBefore x (get_or xs there.0 d) = rw e at before in
    subst (IsBefore x) there.2 before'

sorted_tail : (x : Described) (xs : List Described) → AreSorted (x ∷ xs) → AreSorted xs
sorted_tail x xs h = λ k d l.
    let e : suc k + 1 ≡ suc (k + 1) = omega arith in
    let next = h (suc k) d (omega (arith, l)) in
    let next' : IsBefore (get_or xs k d) (get_or xs (k + 1) d) = rw e at next in
    next'

pub by_identifier : IsStrict IsBefore AreSorted
by_identifier = record { apart = not_both; later = before_later; tail = sorted_tail }

-- the segments of one list, put in order, are one list
pub sorted_once : (given xs ys : List Described) → IsPermutation given xs → IsPermutation given ys → AreSorted xs → AreSorted ys → xs ≡ ys
sorted_once given xs ys moved shifted hx hy =
    once IsBefore AreSorted by_identifier xs ys hx hy
    (λ d there. Contains-permutation given ys d shifted (Contains-permutation xs given d (IsPermutation-sym given xs moved) there))
    (λ d there. Contains-permutation given xs d moved (Contains-permutation ys given d (IsPermutation-sym given ys shifted) there))

-- ---- by number

not_round : (x y : ℕ) → x < y → y < x → ⊥
not_round x y l m = omega (arith, l, m)

pub by_number : IsStrict (λ (x y : ℕ). x < y) IsStrictlyIncreasing
by_number = record { apart = not_round; later = IsStrictlyIncreasing-first; tail = IsStrictlyIncreasing-tail }
