-- Intervals and lists of intervals as sets of instants.
use Rattle.std.proofs.Common.{◌≡◌, ◌↔◌, ℕ, zero, suc, List, [], ◌∷◌, ◌++◌, length, get_or, subst, ◌<◌, ◌≤◌, max, min, ◌⊎◌, inl, inr, true, false, refl, sym, ap, arith, IsSome, nat_cmp}
use Rattle.std.proofs.lemmas.Bool.{cases_lt, lt-ltb, le-ltb, false≢true}
use Rattle.druid_base.proofs.OrderLemmas.{is_le-from}
use Rattle.druid_time.specs.Extent.{Extent, IsExtent, Has, Share, common, AnyHas, SameInstants, AreApart, AreParts}
use Rattle.std.specs.List.{Contains, All}
use Rattle.std.specs.List.Sorted.{IsPermutation, IsNonDecreasingBy, IsPartitionedBy, IsPartitionPoint}
use Rattle.std.proofs.lemmas.Bool.Decides.{nat_tests}
use Rattle.std.specs.Ordering.{is_le}
use Rattle.std.proofs.lemmas.List.{get_or_default}
use Rattle.std.proofs.lemmas.List.Sorted.{Contains-permutation, IsPermutation-sym}

-- two intervals share an instant exactly where the later start lies before the earlier end
pub Share-from_lt : (a b : Extent) → max a.start b.start < min a.end b.end → Share a b
Share-from_lt a b h = (max a.start b.start, (omega arith, omega arith), (omega arith, omega arith))

pub lt-from_Share : (a b : Extent) → Share a b → max a.start b.start < min a.end b.end
lt-from_Share a b h = omega (arith, h.1, h.2)

pub common-Share : (a b : Extent) → IsSome (common a b) ↔ Share a b
common-Share a b =
    elim (cases_lt (max a.start b.start) (min a.end b.end)) [
      | inl met ↦ rw (lt-ltb (max a.start b.start) (min a.end b.end) met) (λ _. Share-from_lt a b met, λ _. refl)
      | inr apart ↦ rw (le-ltb (max a.start b.start) (min a.end b.end) apart) (λ e. absurd (false≢true e), λ s. absurd (omega (arith, lt-from_Share a b s)))
    ]

-- ---- lists of intervals

pub AnyHas-append : (xs ys : List Extent) (t : ℕ) → AnyHas (xs ++ ys) t ↔ (AnyHas xs t ⊎ AnyHas ys t)
AnyHas-append [] ys t = (inr, λ h. elim h [ inl none ↦ absurd none | inr later ↦ later ])
AnyHas-append (x ∷ xs) ys t =
    let rest = AnyHas-append xs ys t in (
      λ h. elim h [
        | inl here ↦ inl (inl here)
        | inr more ↦ elim (rest.0 more) [ inl left ↦ inl (inr left) | inr right ↦ inr right ]
      ],
      λ h. elim h [
        | inl left ↦ elim left [ inl here ↦ inl here | inr more ↦ inr (rest.1 (inl more)) ]
        | inr right ↦ inr (rest.1 (inr right))
      ],
    )

pub AnyHas-push : (xs : List Extent) (x : Extent) (t : ℕ) → AnyHas (xs ++ x ∷ []) t ↔ (AnyHas xs t ⊎ Has x t)
AnyHas-push xs x t =
    let split = AnyHas-append xs (x ∷ []) t in (
      λ h. elim (split.0 h) [ inl left ↦ inl left | inr (inl right) ↦ inr right | inr (inr none) ↦ absurd none ],
      λ h. elim h [ inl left ↦ split.1 (inl left) | inr right ↦ split.1 (inr (inl right)) ],
    )

-- t lies in one that stands in the list
pub AnyHas-Contains : (xs : List Extent) (e : Extent) (t : ℕ) → Contains xs e → Has e t → AnyHas xs t
AnyHas-Contains [] e t h has = absurd (omega (arith, h.1))
AnyHas-Contains (x ∷ xs) e t (zero, below, is) has = inl (subst (λ y. Has y t) (sym is) has)
AnyHas-Contains (x ∷ xs) e t (suc k, below, is) has = inr (AnyHas-Contains xs e t (k, omega arith, is) has)

-- and each list has such a one
pub Contains-AnyHas : (xs : List Extent) (t : ℕ) → AnyHas xs t → (e : Extent) × Contains xs e × Has e t
Contains-AnyHas [] t h = absurd h
Contains-AnyHas (x ∷ xs) t (inl here) = (x, (0, omega arith, refl), here)
Contains-AnyHas (x ∷ xs) t (inr more) =
    let found = Contains-AnyHas xs t more in
    (found.0, (suc found.1.0, omega (arith, found.1.1), found.1.2), found.2)

-- the order of the list does not matter
pub AnyHas-IsPermutation : (xs ys : List Extent) (t : ℕ) → IsPermutation xs ys → AnyHas xs t → AnyHas ys t
AnyHas-IsPermutation xs ys t p h =
    let found = Contains-AnyHas xs t h in
    AnyHas-Contains ys found.0 t (Contains-permutation xs ys found.0 p found.1) found.2

-- ---- parts

-- a part may follow that begins after a gap
pub AreApart-push : (xs : List Extent) (a b : Extent) → AreApart (xs ++ a ∷ []) → a.end < b.start → AreApart ((xs ++ a ∷ []) ++ b ∷ [])
AreApart-push [] a b h gap = (gap, tt)
AreApart-push (x ∷ []) a b h gap = (h.0, (gap, tt))
AreApart-push (x ∷ y ∷ xs) a b h gap = (h.0, AreApart-push (y ∷ xs) a b h.1 gap)

-- the last part may end elsewhere
pub AreApart-last : (xs : List Extent) (a b : Extent) → AreApart (xs ++ a ∷ []) → a.start ≡ b.start → AreApart (xs ++ b ∷ [])
AreApart-last [] a b h same = tt
AreApart-last (x ∷ []) a b h same = (rw (← same) h.0, tt)
AreApart-last (x ∷ y ∷ xs) a b h same = (h.0, AreApart-last (y ∷ xs) a b h.1 same)

-- what follows a part begins after its end
part_before : (a : Extent) (xs : List Extent) (k : ℕ) (d : Extent) → AreApart (a ∷ xs) → All IsExtent xs → k < length xs → a.end < (get_or xs k d).start
part_before a [] k d apart each h = absurd (omega arith)
part_before a (b ∷ bs) zero d apart each h = apart.0
part_before a (b ∷ bs) (suc k) d apart each h =
    let valid : IsExtent b = each 0 b (omega arith) in
    omega (arith, apart.0, valid, part_before b bs k d apart.1 (λ j e below. each (suc j) e (omega arith)) (omega arith))

AreApart-tail : (a : Extent) (xs : List Extent) → AreApart (a ∷ xs) → AreApart xs
AreApart-tail a [] h = tt
AreApart-tail a (b ∷ bs) h = h.1

AreParts-tail : (a : Extent) (xs : List Extent) → AreParts (a ∷ xs) → AreParts xs
AreParts-tail a xs h =
    record { each = λ k d below. h.each (suc k) d (omega arith); apart = AreApart-tail a xs h.apart }

-- the parts stand in their order
pub AreParts-order : (xs : List Extent) (i j : ℕ) (d : Extent) → AreParts xs → i < j → j < length xs → (get_or xs i d).end < (get_or xs j d).start
AreParts-order [] i j d h lt below = absurd (omega arith)
AreParts-order (x ∷ xs) zero zero d h lt below = absurd (omega arith)
AreParts-order (x ∷ xs) zero (suc j) d h lt below =
    part_before x xs j d h.apart (AreParts-tail x xs h).each (omega arith)
AreParts-order (x ∷ xs) (suc i) zero d h lt below = absurd (omega arith)
AreParts-order (x ∷ xs) (suc i) (suc j) d h lt below =
    AreParts-order xs i j d (AreParts-tail x xs h) (omega arith) (omega arith)

pub ends_rise : (xs : List Extent) → AreParts xs → IsNonDecreasingBy (λ e. e.end) xs
ends_rise xs h i j d low below =
    elim (cases_lt i j) [
      | inl before ↦
          let valid : IsExtent (get_or xs j d) = h.each j d below in
          omega (arith, valid, AreParts-order xs i j d h before below)
      | inr reached ↦ let same : i ≡ j = omega arith in omega (arith, ap (λ (k : ℕ). (get_or xs k d).end) same)
    ]

-- an instant lies in the first part that ends after it, or in none
pub AnyHas-at : (xs : List Extent) (i : ℕ) (t : ℕ) → AreParts xs → ((k : ℕ) (d : Extent) → k < i → (get_or xs k d).end ≤ t) → ((k : ℕ) (d : Extent) → i ≤ k → k < length xs → t < (get_or xs k d).end) → AnyHas xs t → (i < length xs) × ((d : Extent) → (get_or xs i d).start ≤ t)
AnyHas-at xs i t h early late has =
    let found = Contains-AnyHas xs t has in
    let e = found.0 in
    let k = found.1.0 in
    let below : k < length xs = found.1.1 in
    let is : get_or xs k e ≡ e = found.1.2 in
    let end_is : (get_or xs k e).end ≡ e.end = ap (λ (x : Extent). x.end) is in
    let start_is : (get_or xs k e).start ≡ e.start = ap (λ (x : Extent). x.start) is in
    let reached : i ≤ k =
    elim (cases_lt k i) [ inl before ↦ absurd (omega (arith, early k e before, found.2)) | inr from ↦ from ] in
    let same : i ≡ k =
    elim (cases_lt i k) [
      | inl before ↦ absurd (omega (arith, AreParts-order xs i k e h before below, late i e (omega arith) (omega arith), found.2))
      | inr from ↦ omega arith
    ] in
    (omega arith, λ d. rw (same, get_or_default xs k d e below) (omega (arith, found.2)))

-- neither a copy nor a sort changes the instants
pub SameInstants-sorted : (xs copy sorted seen parts : List Extent) → copy ≡ xs → IsPermutation copy sorted → seen ≡ sorted → SameInstants parts seen → SameInstants parts xs
SameInstants-sorted xs copy sorted seen parts copied moved same h t = (
  λ has. rw (← copied) (AnyHas-IsPermutation sorted copy t (IsPermutation-sym copy sorted moved) (rw same at ((h t).0 has))),
  λ has. (h t).1 (rw same (AnyHas-IsPermutation copy sorted t moved (rw copied has))),
)

pub at_most : (x y : ℕ) → is_le (nat_cmp x y) ≡ true → x ≤ y
at_most x y h = grind (arith, nat_tests)

pub above : (x y : ℕ) → is_le (nat_cmp x y) ≡ false → y < x
above x y h = grind (arith, nat_tests)

-- ends up to an instant come before the others
pub ends_partitioned : (xs : List Extent) (t : ℕ) → AreParts xs → IsPartitionedBy (λ e. is_le (nat_cmp e.end t)) xs
ends_partitioned xs t h i j d low below e =
    is_le-from (get_or xs i d).end t (omega (arith, ends_rise xs h i j d low below, at_most (get_or xs j d).end t e))

-- the first part that ends after an instant holds it, or none does
abbrev IsFirstPast : List Extent → ℕ → ℕ → Type 0
IsFirstPast xs t i = IsPartitionPoint (λ e. is_le (nat_cmp e.end t) ≡ true) (λ e. is_le (nat_cmp e.end t) ≡ false) xs i

first_past_start : (xs : List Extent) (t i : ℕ) → AreParts xs → IsFirstPast xs t i → AnyHas xs t → (i < length xs) × ((d : Extent) → (get_or xs i d).start ≤ t)
first_past_start xs t i h point has =
    AnyHas-at xs i t h (λ k d before. at_most (get_or xs k d).end t (point.0 k d (omega arith) before)) (λ k d from below. above (get_or xs k d).end t (point.1 k d from below)) has

pub AnyHas-first_past : (xs seen : List Extent) (t i n : ℕ) (e : Extent) → AreParts xs → seen ≡ xs → IsFirstPast seen t i → i < n → n ≡ length xs → e ≡ get_or xs i e → AnyHas xs t ↔ Has e t
AnyHas-first_past xs seen t i n e h same at below len is =
    let point : IsFirstPast xs t i = subst (λ ys. IsFirstPast ys t i) same at in
    let here : i < length xs = omega arith in
    let end_is : e.end ≡ (get_or xs i e).end = ap (λ (x : Extent). x.end) is in
    let start_is : e.start ≡ (get_or xs i e).start = ap (λ (x : Extent). x.start) is in (
      λ has. (omega (arith, (first_past_start xs t i h point has).1 e), omega (arith, above (get_or xs i e).end t (point.1 i e (omega arith) here))),
      λ has. AnyHas-Contains xs e t (i, here, sym is) has,
    )

pub AnyHas-none_beyond : (xs seen : List Extent) (t i n : ℕ) → AreParts xs → seen ≡ xs → IsFirstPast seen t i → n ≤ i → n ≡ length xs → ¬ AnyHas xs t
AnyHas-none_beyond xs seen t i n h same at past len has =
    let point : IsFirstPast xs t i = subst (λ ys. IsFirstPast ys t i) same at in
    omega (arith, (first_past_start xs t i h point has).0)

-- ---- a set has one list of parts

-- the instants of the later parts lie after the end of the first
beyond_first : (a : Extent) (xs : List Extent) (t : ℕ) → AreParts (a ∷ xs) → AnyHas xs t → a.end < t
beyond_first a xs t h more =
    let found = Contains-AnyHas xs t more in
    let place = found.1 in
    let start : (get_or xs place.0 found.0).start ≡ found.0.start = ap (λ (x : Extent). x.start) place.2 in
    omega (arith, part_before a xs place.0 found.0 h.apart (AreParts-tail a xs h).each place.1, start, found.2)

first_valid : (a : Extent) (xs : List Extent) → AreParts (a ∷ xs) → IsExtent a
first_valid a xs h = h.each 0 a (omega arith)

-- no instant of the parts lies before the first start
from_first : (a : Extent) (xs : List Extent) (t : ℕ) → AreParts (a ∷ xs) → AnyHas (a ∷ xs) t → a.start ≤ t
from_first a xs t h (inl here) = here.0
from_first a xs t h (inr more) = omega (arith, first_valid a xs h, beyond_first a xs t h more)

starts_le : (a b : Extent) (xs ys : List Extent) → AreParts (a ∷ xs) → AreParts (b ∷ ys) → SameInstants (a ∷ xs) (b ∷ ys) → b.start ≤ a.start
starts_le a b xs ys h k same =
    let valid = first_valid a xs h in
    from_first b ys a.start k ((same a.start).0 (inl (omega arith, valid.0)))

-- where the starts agree, the first part of one list ends no later than that of the other
ends_le : (a b : Extent) (xs ys : List Extent) → AreParts (a ∷ xs) → AreParts (b ∷ ys) → SameInstants (a ∷ xs) (b ∷ ys) → a.start ≡ b.start → b.end ≤ a.end
ends_le a b xs ys h k same start =
    elim (cases_lt a.end b.end) [
      | inl shorter ↦
          let valid = first_valid a xs h in
          elim ((same a.end).1 (inl (omega (arith, valid), shorter))) [
            | inl here ↦ absurd (omega (arith, here))
            | inr more ↦ absurd (omega (arith, beyond_first a xs a.end h more))
          ]
      | inr enough ↦ enough
    ]

SameInstants-sym : (xs ys : List Extent) → SameInstants xs ys → SameInstants ys xs
SameInstants-sym xs ys same t = ((same t).1, (same t).0)

-- after equal first parts the rest has the same instants
rest_within : (a b : Extent) (xs ys : List Extent) → AreParts (a ∷ xs) → SameInstants (a ∷ xs) (b ∷ ys) → a.end ≡ b.end → (t : ℕ) → AnyHas xs t → AnyHas ys t
rest_within a b xs ys h same end t has =
    elim ((same t).0 (inr has)) [
      | inl here ↦ absurd (omega (arith, here, beyond_first a xs t h has))
      | inr more ↦ more
    ]

extent_same : (a b : Extent) → a.start ≡ b.start → a.end ≡ b.end → a ≡ b
extent_same a b start end i = record { start = start i; end = end i }

pub AreParts-unique : (xs ys : List Extent) → AreParts xs → AreParts ys → SameInstants xs ys → xs ≡ ys
AreParts-unique [] [] h k same = refl
AreParts-unique [] (b ∷ ys) h k same =
    let valid = first_valid b ys k in
    absurd ((same b.start).1 (inl (omega arith, valid.0)))
AreParts-unique (a ∷ xs) [] h k same =
    let valid = first_valid a xs h in
    absurd ((same a.start).0 (inl (omega arith, valid.0)))
AreParts-unique (a ∷ xs) (b ∷ ys) h k same =
    let back = SameInstants-sym (a ∷ xs) (b ∷ ys) same in
    let start : a.start ≡ b.start = omega (arith, starts_le a b xs ys h k same, starts_le b a ys xs k h back) in
    let end : a.end ≡ b.end = omega (arith, ends_le a b xs ys h k same start, ends_le b a ys xs k h back (sym start)) in
    let rest : SameInstants xs ys = λ t. (rest_within a b xs ys h same end t, rest_within b a ys xs k back (sym end) t) in
    let tails = AreParts-unique xs ys (AreParts-tail a xs h) (AreParts-tail b ys k) rest in
    let heads = extent_same a b start end in
    cc
