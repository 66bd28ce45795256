-- Texts of which none stands twice, and the test of that.
use Rattle.std.proofs.Common.{◌≡◌, ◌↔◌, ◌<◌, ◌||◌, ℕ, zero, suc, Bool, true, false, not, List, [], ◌∷◌, length, get_or, refl, sym, ap, ◌∙◌, arith}
use Rattle.std.specs.Bool.{IsTrue}
use Rattle.std.specs.List.{list_any}
use Rattle.std.specs.Str.{bytes_eq}
use Rattle.std.proofs.lemmas.Bool.{and_parts, not-true}
use Rattle.std.proofs.lemmas.List.Folds.{Any-from_list_any}
use Rattle.std.proofs.lemmas.Slice.Eq.{bytes_eq-Decides}
use Rattle.druid_base.specs.Distinct.{AreDistinct, are_distinct}

either_false : (a b : Bool) → (a || b) ≡ false → (a ≡ false) × (b ≡ false)
either_false true b h = absurd cc
either_false false b h = (refl, h)

two_ways : (b : Bool) → b ≡ true → b ≡ false → ⊥
two_ways b here gone = let both = sym here ∙ gone in absurd cc

first_apart : (name : List ℕ) (names : List (List ℕ)) → are_distinct (name ∷ names) ≡ true → list_any (bytes_eq name) names ≡ false
first_apart name names distinct =
    not-true (list_any (bytes_eq name) names) (and_parts (not (list_any (bytes_eq name) names)) (are_distinct names) distinct).0

none_same : (name : List ℕ) (names : List (List ℕ)) → list_any (bytes_eq name) names ≡ false → (j : ℕ) (d : List ℕ) → j < length names → name ≡ get_or names j d → ⊥
none_same name [] none j d below same = omega (arith, below)
none_same name (other ∷ names) none zero d below same =
    let equal : bytes_eq name other ≡ true = (bytes_eq-Decides name other).1 same in
    let apart = (either_false (bytes_eq name other) (list_any (bytes_eq name) names) none).0 in
    absurd (two_ways (bytes_eq name other) equal apart)
none_same name (other ∷ names) none (suc j) d below same =
    none_same name names (either_false (bytes_eq name other) (list_any (bytes_eq name) names) none).1 j d (omega (arith, below)) same

pub distinct_to : (names : List (List ℕ)) → are_distinct names ≡ true → AreDistinct names
distinct_to [] distinct i j d hi hj same = omega (arith, hi)
distinct_to (name ∷ names) distinct zero zero d hi hj same = refl
distinct_to (name ∷ names) distinct zero (suc j) d hi hj same =
    absurd (none_same name names (first_apart name names distinct) j d (omega (arith, hj)) same)
distinct_to (name ∷ names) distinct (suc i) zero d hi hj same =
    absurd (none_same name names (first_apart name names distinct) i d (omega (arith, hi)) (sym same))
distinct_to (name ∷ names) distinct (suc i) (suc j) d hi hj same =
    ap suc (distinct_to names (and_parts (not (list_any (bytes_eq name) names)) (are_distinct names) distinct).1 i j d (omega (arith, hi)) (omega (arith, hj)) same)

pub distinct_from : (names : List (List ℕ)) → AreDistinct names → are_distinct names ≡ true
distinct_from [] own = refl
distinct_from (name ∷ names) own = by (list_any (bytes_eq name) names) refl (distinct_from names rest)
  where
    rest : AreDistinct names
    rest i j d hi hj same = let e = own (suc i) (suc j) d (omega (arith, hi)) (omega (arith, hj)) same in omega (arith, e)

    by : (b : Bool) → list_any (bytes_eq name) names ≡ b → are_distinct names ≡ true → are_distinct (name ∷ names) ≡ true
    by true e more =
        let found = Any-from_list_any (bytes_eq name) names e in
        let same : name ≡ found.1 = (bytes_eq-Decides name found.1).0 found.4 in
        let twice = own zero (suc found.0) found.1 (omega arith) (omega (arith, found.2)) (same ∙ sym found.3) in
        absurd (omega (arith, twice))
    by false e more = rw e more

pub distinct_tested : (names : List (List ℕ)) (b : Bool) → b ≡ are_distinct names → IsTrue b ↔ AreDistinct names
distinct_tested names b is = ((λ on. distinct_to names (sym is ∙ on)), (λ own. is ∙ distinct_from names own))
