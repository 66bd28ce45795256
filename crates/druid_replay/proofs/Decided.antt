-- What can be decided of lists, and lists that can be put in order.
use Rattle.std.proofs.Common.{◌≡◌, ℕ, ◌+◌, ◌<◌, zero, suc, Bool, true, false, List, [], ◌∷◌, All, length, get_or, ◌⊎◌, inl, inr, refl, sym, ap, subst, ◌∙◌, arith}
use Rattle.std.specs.Ordering.{nat_cmp, ordering_reverse}
use Rattle.std.specs.declared.cmp.Ordering.{Ordering}
use Rattle.std.specs.declared.cmp.Ordering.TheVariants.{Less, Equal, Greater}
use Rattle.std.specs.Cmp.Lexicographic.{slice_cmp}
use Rattle.std.specs.List.{Contains}
use Rattle.std.specs.List.Sorted.{IsPermutation}
use Rattle.std.specs.Str.{bytes_eq}
use Rattle.std.proofs.lemmas.Bool.{false≢true}
use Rattle.std.proofs.lemmas.Cmp.{nat_list_cmp_total}
use Rattle.std.proofs.lemmas.Slice.Eq.{bytes_eq-Decides}
use Rattle.std.proofs.lemmas.List.Elements.{All-nil, All-cons, All-head, All-tail, Contains-get_or}
use Rattle.std.proofs.lemmas.List.Sorted.{Contains-permutation, IsPermutation-refl, IsPermutation-sym, IsPermutation-trans, IsPermutation-cons, IsPermutation-middle}
use Rattle.druid_segment_id.specs.Identifier.{identifier_text}
use Rattle.druid_segment_id.proofs.OrderLemmas.{slice_cmp-Equal}
use Rattle.druid_segment_descriptor.specs.Described.{Described}
use Rattle.druid_segment_descriptor.specs.Reply.{IsBefore, AreSorted, HaveOwnIdentifiers}
use Rattle.druid_base.proofs.MemberLemmas.{Contains-cons, Contains-later, Contains-nil}
use Rattle.druid_replay.proofs.OrderOnce.{by_identifier}

abbrev pub Decided : Type 0 → Type 0
Decided P = P ⊎ (P → ⊥)

pub by_test : (P : Type 0) (b : Bool) → (b ≡ true → P) → (P → b ≡ true) → Decided P
by_test P true to from = inl (to refl)
by_test P false to from = inr (λ p. false≢true (from p))

pub same_text : (a b : List ℕ) → Decided (a ≡ b)
same_text a b = by_test (a ≡ b) (bytes_eq a b) (bytes_eq-Decides a b).0 (bytes_eq-Decides a b).1

pub all_decided : {A : Type 0} (P : A → Type 0) → ((x : A) → Decided (P x)) → (xs : List A) → Decided (All P xs)
all_decided P each [] = inl (All-nil P)
all_decided P each (x ∷ xs) = by (each x) (all_decided P each xs) where
  by : Decided (P x) → Decided (All P xs) → Decided (All P (x ∷ xs))
  by (inl here) (inl rest) = inl (All-cons P x xs here rest)
  by (inl here) (inr none) = inr (λ all. none (All-tail P x xs all))
  by (inr none) rest = inr (λ all. none (All-head P x xs all))

-- ---- texts that stand once

-- no text stands at two places
abbrev pub HaveOwn : {A : Type 0} → (A → List ℕ) → List A → Type 0
HaveOwn {A} f xs = (i j : ℕ) (d : A) → i < length xs → j < length xs → f (get_or xs i d) ≡ f (get_or xs j d) → i ≡ j

abbrev HasText : {A : Type 0} → (A → List ℕ) → List ℕ → List A → Type 0
HasText {A} f t xs = (y : A) × Contains xs y × (f y ≡ t)

has_text : {A : Type 0} (f : A → List ℕ) (t : List ℕ) (xs : List A) → Decided (HasText f t xs)
has_text f t [] = inr (λ h. Contains-nil h.0 h.1)
has_text {A} f t (x ∷ xs) = by (same_text (f x) t) (has_text f t xs) where
  by : Decided (f x ≡ t) → Decided (HasText f t xs) → Decided (HasText f t (x ∷ xs))
  by (inl here) rest = inl (x, (0, omega arith, refl), here)
  by (inr other) (inl rest) = inl (rest.0, Contains-later x xs rest.0 rest.1, rest.2)
  by (inr other) (inr none) = inr (λ h. neither h (Contains-cons x xs h.0 h.1)) where
    neither : (h : HasText f t (x ∷ xs)) → (x ≡ h.0) ⊎ Contains xs h.0 → ⊥
    neither h (inl here) = other (ap f here ∙ h.2)
    neither h (inr later) = none (h.0, later, h.2)

own_cons : {A : Type 0} (f : A → List ℕ) (x : A) (xs : List A) → (HasText f (f x) xs → ⊥) → HaveOwn f xs → HaveOwn f (x ∷ xs)
own_cons f x xs none own zero zero d l m e = refl
own_cons f x xs none own zero (suc j) d l m e =
    absurd (none (get_or xs j d, Contains-get_or xs j d (omega (arith, m)), sym e))
own_cons f x xs none own (suc i) zero d l m e =
    absurd (none (get_or xs i d, Contains-get_or xs i d (omega (arith, l)), e))
own_cons f x xs none own (suc i) (suc j) d l m e = ap suc (own i j d (omega (arith, l)) (omega (arith, m)) e)

own_rest : {A : Type 0} (f : A → List ℕ) (x : A) (xs : List A) → HaveOwn f (x ∷ xs) → HaveOwn f xs
own_rest f x xs own i j d l m e =
    let same = own (suc i) (suc j) d (omega (arith, l)) (omega (arith, m)) e in
    omega (arith, same)

own_first : {A : Type 0} (f : A → List ℕ) (x : A) (xs : List A) → HaveOwn f (x ∷ xs) → HasText f (f x) xs → ⊥
own_first f x xs own h =
    let place = h.1 in
    let same = own 0 (suc place.0) h.0 (omega arith) (omega (arith, place.1)) (sym h.2 ∙ sym (ap f place.2)) in
    omega (arith, same)

pub own_decided : {A : Type 0} (f : A → List ℕ) (xs : List A) → Decided (HaveOwn f xs)
own_decided f [] = inl (λ i j d l m e. absurd (omega (arith, l)))
own_decided f (x ∷ xs) = by (has_text f (f x) xs) (own_decided f xs) where
  by : Decided (HasText f (f x) xs) → Decided (HaveOwn f xs) → Decided (HaveOwn f (x ∷ xs))
  by (inl twice) rest = inr (λ own. own_first f x xs own twice)
  by (inr once) (inl rest) = inl (own_cons f x xs once rest)
  by (inr once) (inr none) = inr (λ own. none (own_rest f x xs own))

-- ---- segments in order

sorted_cons : (y : Described) (zs : List Described) → AreSorted zs → ((d : Described) → Contains zs d → IsBefore y d) → AreSorted (y ∷ zs)
sorted_cons y zs h before zero d l = before (get_or zs 0 d) (Contains-get_or zs 0 d (omega (arith, l)))
sorted_cons y zs h before (suc k) d l =
    let e : suc k + 1 ≡ suc (k + 1) = omega arith in
    let next : IsBefore (get_or zs k d) (get_or zs (k + 1) d) = h k d (omega (arith, l)) in
    rw e next

sorted_nil : AreSorted []
sorted_nil k d l = absurd (omega (arith, l))

-- what comes before the first comes before each
before_each : (x y : Described) (ys : List Described) → AreSorted (y ∷ ys) → IsBefore x y → (d : Described) → Contains (y ∷ ys) d → IsBefore x d
before_each x y ys h before d there =
    elim (Contains-cons y ys d there) [
      | inl here ↦ subst (IsBefore x) here before
      | inr later ↦ nat_list_cmp_total.trans (identifier_text x.id) (identifier_text y.id) (identifier_text d.id) before (by_identifier.later y ys d h later)
    ]

before_decided : (x y : Described) → Decided (IsBefore x y)
before_decided x y = by (slice_cmp nat_cmp (identifier_text x.id) (identifier_text y.id)) refl where
  by : (o : Ordering) → slice_cmp nat_cmp (identifier_text x.id) (identifier_text y.id) ≡ o → Decided (IsBefore x y)
  by Less e = inl e
  by Equal e = inr (λ h. absurd (cc))
  by Greater e = inr (λ h. absurd (cc))

pub sorted_decided : (ds : List Described) → Decided (AreSorted ds)
sorted_decided [] = inl sorted_nil
sorted_decided (x ∷ []) = inl (sorted_cons x [] sorted_nil (λ d there. absurd (Contains-nil d there)))
sorted_decided (x ∷ y ∷ ys) = by (before_decided x y) (sorted_decided (y ∷ ys)) where
  by : Decided (IsBefore x y) → Decided (AreSorted (y ∷ ys)) → Decided (AreSorted (x ∷ y ∷ ys))
  by (inl before) (inl rest) = inl (sorted_cons x (y ∷ ys) rest (before_each x y ys rest before))
  by (inl before) (inr none) = inr (λ h. none (by_identifier.tail x (y ∷ ys) h))
  by (inr other) rest = inr (λ h. other (h 0 x (omega arith)))

abbrev Placed : Described → List Described → Type 0
Placed x ys = (zs : List Described) × IsPermutation (x ∷ ys) zs × AreSorted zs

placed : (x : Described) (ys : List Described) → AreSorted ys → ((d : Described) → Contains ys d → identifier_text d.id ≡ identifier_text x.id → ⊥) → Placed x ys
placed x [] h none = (x ∷ [], IsPermutation-refl (x ∷ []), sorted_cons x [] sorted_nil (λ d there. absurd (Contains-nil d there)))
placed x (y ∷ ys) h none =
    by (slice_cmp nat_cmp (identifier_text x.id) (identifier_text y.id)) refl (placed x ys (by_identifier.tail y ys h) (λ d there. none d (Contains-later y ys d there))) where
      beyond : (zs : List Described) → IsPermutation (x ∷ ys) zs → IsBefore y x → (d : Described) → Contains zs d → IsBefore y d
      beyond zs moved before d there =
          elim (Contains-cons x ys d (Contains-permutation zs (x ∷ ys) d (IsPermutation-sym (x ∷ ys) zs moved) there)) [
            | inl here ↦ subst (IsBefore y) here before
            | inr later ↦ by_identifier.later y ys d h later
          ]

      by : (o : Ordering) → slice_cmp nat_cmp (identifier_text x.id) (identifier_text y.id) ≡ o → Placed x ys → Placed x (y ∷ ys)
      by Less e rest = (x ∷ y ∷ ys, IsPermutation-refl (x ∷ y ∷ ys), sorted_cons x (y ∷ ys) h (before_each x y ys h e))
      by Equal e rest =
          absurd (none y (0, omega arith, refl) (sym (slice_cmp-Equal (identifier_text x.id) (identifier_text y.id) e)))
      by Greater e rest =
          let before : IsBefore y x = nat_list_cmp_total.antisymm (identifier_text y.id) (identifier_text x.id) ∙ ap ordering_reverse e in
          let swapped : IsPermutation (x ∷ y ∷ ys) (y ∷ x ∷ ys) = IsPermutation-sym (y ∷ x ∷ ys) (x ∷ y ∷ ys) (IsPermutation-middle (y ∷ []) x ys) in
          let whole = IsPermutation-trans (x ∷ y ∷ ys) (y ∷ x ∷ ys) (y ∷ rest.0) swapped (IsPermutation-cons y (x ∷ ys) rest.0 rest.1) in
          (y ∷ rest.0, whole, sorted_cons y rest.0 rest.2 (beyond rest.0 rest.1 before))

-- segments of different identifiers can be put in order
pub in_order : (given : List Described) → HaveOwnIdentifiers given → (sorted : List Described) × IsPermutation given sorted × AreSorted sorted
in_order [] own = ([], IsPermutation-refl [], sorted_nil)
in_order (x ∷ xs) own =
    let rest = in_order xs (own_rest (λ (d : Described). identifier_text d.id) x xs own) in
    let one = placed x rest.0 rest.2 (λ d there same. own_first (λ (y : Described). identifier_text y.id) x xs own
    (d, Contains-permutation rest.0 xs d (IsPermutation-sym xs rest.0 rest.1) there, same)) in
    (one.0, IsPermutation-trans (x ∷ xs) (x ∷ rest.0) one.0 (IsPermutation-cons x xs rest.0 rest.1) one.1, one.2)
