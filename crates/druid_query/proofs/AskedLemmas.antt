-- Pieces of segments in order: those that overlap stand side by side.
use Rattle.std.proofs.Common.{◌≡◌, ◌↔◌, ◌<◌, ◌≤◌, ◌+◌, ◌-◌, ◌⊎◌, ◌&&◌, ℕ, zero, suc, List, [], ◌∷◌, length, get_or, All, Contains, IsTrue, is_some, not, true, false, Bool, refl, sym, ap, ◌∙◌, subst, inl, inr, arith}
use Rattle.std.specs.List.{list_any, AllAdjacentBelow}
use Rattle.std.specs.List.Sorted.{IsPermutation, IsSorted}
use Rattle.std.specs.Ordering.{nat_cmp, ordering_then, ordering_reverse, is_lt, is_eq}
use Rattle.std.specs.declared.cmp.Ordering.{Ordering}
use Rattle.std.specs.declared.cmp.Ordering.TheVariants.{Less, Equal, Greater}
use Rattle.std.specs.Cmp.{first_so, second_so}
use Rattle.std.proofs.lemmas.Bool.{cases_order, cases_lt, false≢true, not-true, false_from_ne_true}
use Rattle.std.proofs.lemmas.Cmp.{tied_itself}
use Rattle.std.proofs.lemmas.List.{get_or_default}
use Rattle.std.proofs.lemmas.List.Folds.{list_any_at, list_any_none}
use Rattle.std.proofs.lemmas.List.Sorted.{IsPermutation-sym, All-permutation}
use Rattle.druid_base.proofs.OrderLemmas.{nat_cmp-lt}
use Rattle.druid_time.specs.Extent.{IsExtent, common}
use Rattle.druid_time.proofs.ExtentLemmas.{common-Share}
use Rattle.druid_segment_id.specs.Identifier.{Identifier, parts_cmp, same_identifier}
use Rattle.druid_segment_id.specs.IdentifierLaws.{parts_cmp-total, same_parts, same_identifier-true}
use Rattle.druid_base.proofs.MovedLemmas.{alone-permutation}
use Rattle.druid_query.specs.Asked.{Asked, Overlap, do_overlap, StandApart, stand_apart}
use Rattle.druid_query.specs.AskedOrder.{asked_cmp, AreApart}

-- ---- the tests

same_reported : (a b : Identifier) → a ≡ b → same_identifier a b ≡ true
same_reported a b same = subst (λ x. same_identifier a x ≡ true) same (same_parts a a ∙ ap is_eq (tied_itself parts_cmp-total a))

pub overlap_seen : (a b : Asked) → do_overlap a b ≡ true → Overlap a b
overlap_seen a b h = (same_identifier-true a.0 b.0 (first_so _ _ h), (common-Share a.1 b.1).0 (second_so _ _ h))

pub overlap_reported : (a b : Asked) → Overlap a b → do_overlap a b ≡ true
overlap_reported a b (same, shared) = ap (λ t. t && is_some (common a.1 b.1)) (same_reported a.0 b.0 same) ∙ (common-Share a.1 b.1).1 shared

turned : (a b : Asked) → Overlap a b → Overlap b a
turned a b (same, shared) = (sym same, (shared.0, shared.2, shared.1))

pub apart_seen : (xs : List Asked) → stand_apart xs ≡ true → StandApart xs
apart_seen [] h i j a li lj o = absurd (omega (arith, li))
apart_seen (x ∷ xs) h zero zero a li lj o = refl
apart_seen (x ∷ xs) h zero (suc j) a li lj o =
    let none = not-true (list_any (do_overlap x) xs) (first_so _ _ h) in
    absurd (false≢true (sym none ∙ list_any_at (do_overlap x) xs j a (omega arith) (overlap_reported x (get_or xs j a) o)))
apart_seen (x ∷ xs) h (suc i) zero a li lj o =
    let none = not-true (list_any (do_overlap x) xs) (first_so _ _ h) in
    absurd (false≢true (sym none ∙ list_any_at (do_overlap x) xs i a (omega arith) (overlap_reported x (get_or xs i a) (turned (get_or xs i a) x o))))
apart_seen (x ∷ xs) h (suc i) (suc j) a li lj o = ap suc (apart_seen xs (second_so _ _ h) i j a (omega arith) (omega arith) o)

pub apart_reported : (xs : List Asked) → StandApart xs → stand_apart xs ≡ true
apart_reported [] alone = refl
apart_reported (x ∷ xs) alone =
    ap (λ b. not b && stand_apart xs) (list_any_none (do_overlap x) xs (λ k a l. false_from_ne_true (do_overlap x (get_or xs k a)) (λ h. apart_first k a l h)))
    ∙ apart_reported xs (λ i j a li lj o. let same = alone (suc i) (suc j) a (omega arith) (omega arith) o in omega (arith, same))
  where
    apart_first : (k : ℕ) (a : Asked) → k < length xs → do_overlap x (get_or xs k a) ≡ true → ⊥
    apart_first k a l h = let same = alone zero (suc k) a (omega arith) (omega arith) (overlap_seen x (get_or xs k a) h) in omega (arith, same)

-- ---- in order

-- of one segment and before it, or of another
abbrev Before : Asked → Asked → Type 0
Before a b = (parts_cmp a.0 b.0 ≡ Less) ⊎ ((a.0 ≡ b.0) × (a.1.end ≤ b.1.start))

before_trans : (a b c : Asked) → IsExtent b.1 → Before a b → Before b c → Before a c
before_trans a b c valid (inl x) (inl y) = inl (parts_cmp-total.trans a.0 b.0 c.0 x y)
before_trans a b c valid (inl x) (inr y) = inl (subst (λ s. parts_cmp a.0 s ≡ Less) y.0 x)
before_trans a b c valid (inr x) (inl y) = inl (subst (λ s. parts_cmp s c.0 ≡ Less) (sym x.0) y)
before_trans a b c valid (inr x) (inr y) = inr (x.0 ∙ y.0, omega (arith, x.1, y.1, valid.0))

before_apart : (a b : Asked) → Before a b → Overlap a b → ⊥
before_apart a b (inl x) o =
    let tied = tied_itself parts_cmp-total a.0 in
    let less : parts_cmp a.0 a.0 ≡ Less = subst (λ s. parts_cmp a.0 s ≡ Less) (sym o.0) x in
    absurd (cc)
before_apart a b (inr x) o = omega (arith, x.1, o.1.1, o.1.2)

less_first : (a b : Asked) → parts_cmp a.0 b.0 ≡ Less → is_lt (asked_cmp a b) ≡ true
less_first a b less = ap (λ o. is_lt (ordering_then (ordering_then o (nat_cmp a.1.start b.1.start)) (nat_cmp a.1.end b.1.end))) less

less_start : (a b : Asked) → parts_cmp a.0 b.0 ≡ Equal → nat_cmp a.1.start b.1.start ≡ Less → is_lt (asked_cmp a b) ≡ true
less_start a b same less =
    ap (λ o. is_lt (ordering_then (ordering_then o (nat_cmp a.1.start b.1.start)) (nat_cmp a.1.end b.1.end))) same
    ∙ ap (λ o. is_lt (ordering_then o (nat_cmp a.1.end b.1.end))) less

-- what does not come later, and does not overlap, comes before
before_next : (a b : Asked) → IsExtent b.1 → is_lt (asked_cmp b a) ≡ false → AreApart a b → Before a b
before_next a b valid not_less apart = by_order (parts_cmp a.0 b.0) refl
  where
    beyond : a.0 ≡ b.0 → parts_cmp b.0 a.0 ≡ Equal → a.1.end ≤ b.1.start
    beyond same tied = elim (cases_lt b.1.start a.1.start) [
      | inl less ↦ absurd (false≢true (sym not_less ∙ less_start b a tied (nat_cmp-lt b.1.start a.1.start less)))
      | inr level ↦ elim (cases_lt b.1.start a.1.end) [
        | inl met ↦ absurd (false≢true (sym apart ∙ overlap_reported a b (same, (b.1.start, (level, met), (omega arith, valid.0)))))
        | inr after ↦ after
      ]
    ]

    by_order : (o : Ordering) → parts_cmp a.0 b.0 ≡ o → Before a b
    by_order Less e = inl e
    by_order Equal e =
        let same = same_identifier-true a.0 b.0 (same_parts a.0 b.0 ∙ ap is_eq e) in
        inr (same, beyond same (parts_cmp-total.antisymm b.0 a.0 ∙ ap ordering_reverse e))
    by_order Greater e = absurd (false≢true (sym not_less ∙ less_first b a (parts_cmp-total.antisymm b.0 a.0 ∙ ap ordering_reverse e)))

abbrev AreValid : List Asked → Type 0
AreValid xs = All (λ a. IsExtent a.1) xs

before_later : (xs : List Asked) → AreValid xs → AllAdjacentBelow Before xs (length xs) → (i n : ℕ) (a : Asked) → i + suc n < length xs → Before (get_or xs i a) (get_or xs (i + suc n) a)
before_later xs valid next i zero a l = next i a l
before_later xs valid next i (suc n) a l =
    let before = before_later xs valid next i n a (omega arith) in
    let one : Before (get_or xs (i + suc n) a) (get_or xs (i + suc n + 1) a) = next (i + suc n) a (omega arith) in
    let e : i + suc n + 1 ≡ i + suc (suc n) = omega arith in
    let one' : Before (get_or xs (i + suc n) a) (get_or xs (i + suc (suc n)) a) = subst (λ (p : ℕ). Before (get_or xs (i + suc n) a) (get_or xs p a)) e one in
    before_trans (get_or xs i a) (get_or xs (i + suc n) a) (get_or xs (i + suc (suc n)) a) (valid (i + suc n) a (omega arith)) before one'

later_apart : (xs : List Asked) → AreValid xs → AllAdjacentBelow Before xs (length xs) → (i j : ℕ) (a : Asked) → i < j → j < length xs → Overlap (get_or xs i a) (get_or xs j a) → ⊥
later_apart xs valid next i j a below l o =
    let e : i + suc (j - suc i) ≡ j = omega arith in
    let before = before_later xs valid next i (j - suc i) a (omega arith) in
    let before' : Before (get_or xs i a) (get_or xs j a) = subst (λ (p : ℕ). Before (get_or xs i a) (get_or xs p a)) e before in
    before_apart (get_or xs i a) (get_or xs j a) before' o

sorted_apart : (xs : List Asked) → AreValid xs → IsSorted asked_cmp xs → AllAdjacentBelow AreApart xs (length xs) → StandApart xs
sorted_apart xs valid sorted apart i j a li lj o =
    elim (cases_order i j) [
      | inl level ↦ level
      | inr (inl below) ↦ absurd (later_apart xs valid next i j a below lj o)
      | inr (inr above) ↦ absurd (later_apart xs valid next j i a above li (turned (get_or xs i a) (get_or xs j a) o))
    ]
  where
    next : AllAdjacentBelow Before xs (length xs)
    next k d l = before_next (get_or xs k d) (get_or xs (k + 1) d) (valid (k + 1) d l) (sorted k d (omega arith) l) (apart k d l)

apart_sorted : (xs : List Asked) → StandApart xs → AllAdjacentBelow AreApart xs (length xs)
apart_sorted xs alone k d l = false_from_ne_true (do_overlap (get_or xs k d) (get_or xs (k + 1) d)) (λ h.
    let same : k ≡ k + 1 = alone k (k + 1) d (omega arith) l (overlap_seen (get_or xs k d) (get_or xs (k + 1) d) h) in
    omega (arith, same))

-- the search in order finds whether any two overlap
pub searched : (all sorted : List Asked) (b : Bool) → AreValid all → IsPermutation all sorted → IsSorted asked_cmp sorted → (IsTrue b ↔ AllAdjacentBelow AreApart sorted (length sorted)) → b ≡ stand_apart all
searched all sorted true valid moved order reported =
    let apart = sorted_apart sorted (All-permutation (λ a. IsExtent a.1) all sorted moved valid) order (reported.0 refl) in
    sym (apart_reported all (alone-permutation Overlap sorted all (IsPermutation-sym all sorted moved) apart))
searched all sorted false valid moved order reported =
    sym (false_from_ne_true (stand_apart all) (λ h. absurd (false≢true (reported.1 (apart_sorted sorted (alone-permutation Overlap all sorted moved (apart_seen all h)))))))

-- what holds of each element
pub all_of_each : {A : Type 0} (P : A → Type 0) (xs : List A) → ((x : A) → Contains xs x → P x) → All P xs
all_of_each P xs each k d l = each (get_or xs k d) (k, l, get_or_default xs k (get_or xs k d) d l)
