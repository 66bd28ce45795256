-- A row's numbers joined to those of a group.
use Rattle.std.proofs.Common.{◌≡◌, ℕ, zero, suc, ◌+◌, ◌<◌, ℤ, List, [], ◌∷◌, map, length, get_or, take, set, min, Option, refl, ap, arith, add-one}
use Rattle.druid_query.specs.declared.aggregator.AggregatorKind.{AggregatorKind}
use Rattle.druid_partial.specs.Joined.{joined, join_numbers}
use Rattle.druid_partial_scan.specs.Cells.{join_into, number_from}
use Rattle.druid_partial_scan.specs.declared.cells.NumberColumn.{NumberColumn}

into_suc : (kinds : List AggregatorKind) (cs : List NumberColumn) (row : ℕ) (ys : List (Option ℤ)) (i : ℕ) (k : AggregatorKind) (c : NumberColumn) (y : Option ℤ) → i < length kinds → i < length cs → i < length ys → join_into (take (suc i) kinds) (map (number_from row) cs) ys ≡ set (join_into (take i kinds) (map (number_from row) cs) ys) i (joined (get_or kinds i k) (number_from row (get_or cs i c)) (get_or (join_into (take i kinds) (map (number_from row) cs) ys) i y))
into_suc [] cs row ys i k c y p q r = absurd (omega arith)
into_suc (a ∷ kinds) [] row ys i k c y p q r = absurd (omega arith)
into_suc (a ∷ kinds) (b ∷ cs) row [] i k c y p q r = absurd (omega arith)
into_suc (a ∷ kinds) (b ∷ cs) row (d ∷ ys) zero k c y p q r = refl
into_suc (a ∷ kinds) (b ∷ cs) row (d ∷ ys) (suc i) k c y p q r =
    ap (λ l. joined a (number_from row b) d ∷ l) (into_suc kinds cs row ys i k c y (omega arith) (omega arith) (omega arith))

pub into_more : (kinds : List AggregatorKind) (cs : List NumberColumn) (row : ℕ) (ys : List (Option ℤ)) (i : ℕ) (k : AggregatorKind) (c : NumberColumn) (y : Option ℤ) → i < length kinds → i < length cs → i < length ys → join_into (take (i + 1) kinds) (map (number_from row) cs) ys ≡ set (join_into (take i kinds) (map (number_from row) cs) ys) i (joined (get_or kinds i k) (number_from row (get_or cs i c)) (get_or (join_into (take i kinds) (map (number_from row) cs) ys) i y))
into_more kinds cs row ys i k c y p q r = rw add-one (into_suc kinds cs row ys i k c y p q r)

pub into_all : (kinds : List AggregatorKind) (cs : List NumberColumn) (row : ℕ) (ys : List (Option ℤ)) (n : ℕ) → n ≡ min (min (length kinds) (length cs)) (length ys) → join_into (take n kinds) (map (number_from row) cs) ys ≡ join_into kinds (map (number_from row) cs) ys
into_all [] cs row ys n e = let z : n ≡ 0 = omega arith in rw z refl
into_all (k ∷ kinds) [] row ys n e = let z : n ≡ 0 = omega arith in rw z refl
into_all (k ∷ kinds) (c ∷ cs) row [] n e = let z : n ≡ 0 = omega arith in rw z refl
into_all (k ∷ kinds) (c ∷ cs) row (y ∷ ys) zero e = absurd (omega arith)
into_all (k ∷ kinds) (c ∷ cs) row (y ∷ ys) (suc n) e = ap (λ l. joined k (number_from row c) y ∷ l) (into_all kinds cs row ys n (omega arith))

pub ruleset into_steps = (into_more, into_all)

-- where there is a number of each kind, it is what two groups of one key are joined to
pub into_is : (kinds : List AggregatorKind) (xs ys : List (Option ℤ)) → length xs ≡ length kinds → length ys ≡ length kinds → join_into kinds xs ys ≡ join_numbers kinds xs ys
into_is [] [] [] p q = refl
into_is [] (x ∷ xs) ys p q = absurd (omega arith)
into_is [] xs (y ∷ ys) p q = absurd (omega arith)
into_is (k ∷ kinds) [] ys p q = absurd (omega arith)
into_is (k ∷ kinds) (x ∷ xs) [] p q = absurd (omega arith)
into_is (k ∷ kinds) (x ∷ xs) (y ∷ ys) p q = ap (λ l. joined k x y ∷ l) (into_is kinds xs ys (omega arith) (omega arith))
