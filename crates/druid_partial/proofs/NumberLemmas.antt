-- What aggregators tell of numbers is joined in any order: sums, counts, least and greatest by one law.
use Rattle.std.proofs.Common.{◌≡◌, ℤ, ◌+ℤ◌, ◌≤ℤ◌, List, [], ◌∷◌, ◌++◌, Option, Some, None, refl, sym, ap, subst, ◌∙◌, ◌⊎◌, inl, inr, ⊎_elim, arith}
use Rattle.std.specs.Prelude.{Contains, pos}
use Rattle.std.specs.Int.{int_wrap, int_min, int_max, w64}
use Rattle.std.proofs.Math.IntN.{+ℤ_assoc}
use Rattle.std.proofs.lemmas.Int.{ints, clamps, int_wrap_fits, int_wrap-add_left, int_wrap-add_right, SFits-int_wrap, by_lt_z}
use Rattle.std.proofs.lemmas.List.Elements.{All-contains, All-cons, All-nil, All-weaker}
use Rattle.druid_base.proofs.ListLemmas.{Contains-here}
use Rattle.druid_base.proofs.MemberLemmas.{Contains-later}
use Rattle.druid_query.specs.declared.aggregator.AggregatorKind.{AggregatorKind}
use Rattle.druid_query.specs.declared.aggregator.AggregatorKind.TheVariants.{Count, LongSum, LongMin, LongMax}
use Rattle.druid_partial.specs.Groups.{known, total, IsLeast, IsGreatest, IsReported, IsAggregate}
use Rattle.druid_partial.specs.Joined.{alone, join_two, joined}

-- ---- two numbers

add_comm_ℤ : (x y : ℤ) → x +ℤ y ≡ y +ℤ x
add_comm_ℤ x y = omega (arith, ints)

wrap_assoc : (x y z : ℤ) → int_wrap w64 (int_wrap w64 (x +ℤ y) +ℤ z) ≡ int_wrap w64 (x +ℤ int_wrap w64 (y +ℤ z))
wrap_assoc x y z =
    int_wrap-add_left w64 (x +ℤ y) z ∙ ap (int_wrap w64) (+ℤ_assoc x y z) ∙ sym (int_wrap-add_right w64 x (y +ℤ z))

pub wrap_again : (x : ℤ) → int_wrap w64 (int_wrap w64 x) ≡ int_wrap w64 x
wrap_again x = int_wrap_fits w64 (int_wrap w64 x) (SFits-int_wrap w64 x)

min_comm : (x y : ℤ) → int_min x y ≡ int_min y x
min_comm x y = omega (arith, ints, clamps)

max_comm : (x y : ℤ) → int_max x y ≡ int_max y x
max_comm x y = omega (arith, ints, clamps)

min_assoc : (x y z : ℤ) → int_min (int_min x y) z ≡ int_min x (int_min y z)
min_assoc x y z = omega (arith, ints, clamps)

max_assoc : (x y z : ℤ) → int_max (int_max x y) z ≡ int_max x (int_max y z)
max_assoc x y z = omega (arith, ints, clamps)

join_two-comm : (kind : AggregatorKind) (x y : ℤ) → join_two kind x y ≡ join_two kind y x
join_two-comm Count x y = ap (int_wrap w64) (add_comm_ℤ x y)
join_two-comm LongSum x y = ap (int_wrap w64) (add_comm_ℤ x y)
join_two-comm LongMin x y = min_comm x y
join_two-comm LongMax x y = max_comm x y

join_two-assoc : (kind : AggregatorKind) (x y z : ℤ) → join_two kind (join_two kind x y) z ≡ join_two kind x (join_two kind y z)
join_two-assoc Count x y z = wrap_assoc x y z
join_two-assoc LongSum x y z = wrap_assoc x y z
join_two-assoc LongMin x y z = min_assoc x y z
join_two-assoc LongMax x y z = max_assoc x y z

-- ---- numbers that may be missing

pub joined-none : (kind : AggregatorKind) (x : Option ℤ) → joined kind x None ≡ x
joined-none kind None = refl
joined-none kind (Some x) = refl

pub joined-comm : (kind : AggregatorKind) (x y : Option ℤ) → joined kind x y ≡ joined kind y x
joined-comm kind None None = refl
joined-comm kind None (Some y) = refl
joined-comm kind (Some x) None = refl
joined-comm kind (Some x) (Some y) = ap (λ n. Some n) (join_two-comm kind x y)

pub joined-assoc : (kind : AggregatorKind) (x y z : Option ℤ) → joined kind (joined kind x y) z ≡ joined kind x (joined kind y z)
joined-assoc kind None y z = refl
joined-assoc kind (Some x) None z = refl
joined-assoc kind (Some x) (Some y) None = refl
joined-assoc kind (Some x) (Some y) (Some z) = ap (λ n. Some n) (join_two-assoc kind x y z)

-- ---- what is reported of numbers

abbrev pub reported : AggregatorKind → List ℤ → Option ℤ
reported kind [] = None
reported kind (x ∷ xs) = joined kind (Some (alone kind x)) (reported kind xs)

pub reported-append : (kind : AggregatorKind) (xs ys : List ℤ) → reported kind (xs ++ ys) ≡ joined kind (reported kind xs) (reported kind ys)
reported-append kind [] ys = refl
reported-append kind (x ∷ xs) ys =
    ap (joined kind (Some (alone kind x))) (reported-append kind xs ys) ∙ sym (joined-assoc kind (Some (alone kind x)) (reported kind xs) (reported kind ys))

-- a number that is counted stands for those after it
abbrev pub again : AggregatorKind → Option ℤ → Option ℤ
again kind x = reported kind (known (x ∷ []))

alone_again : (kind : AggregatorKind) (x : ℤ) → alone kind (alone kind x) ≡ alone kind x
alone_again Count x = wrap_again x
alone_again LongSum x = wrap_again x
alone_again LongMin x = refl
alone_again LongMax x = refl

alone_two : (kind : AggregatorKind) (x y : ℤ) → alone kind (join_two kind (alone kind x) y) ≡ join_two kind (alone kind x) y
alone_two Count x y = wrap_again _
alone_two LongSum x y = wrap_again _
alone_two LongMin x y = refl
alone_two LongMax x y = refl

again_after : (kind : AggregatorKind) (x : ℤ) (rest : Option ℤ) → again kind (joined kind (Some (alone kind x)) rest) ≡ joined kind (Some (alone kind x)) rest
again_after kind x None = ap (λ n. Some n) (alone_again kind x)
again_after kind x (Some y) = ap (λ n. Some n) (alone_two kind x y)

pub reported-again : (kind : AggregatorKind) (xs : List ℤ) → again kind (reported kind xs) ≡ reported kind xs
reported-again kind [] = refl
reported-again kind (x ∷ xs) = again_after kind x (reported kind xs)

-- ---- it is what the definition says

sum_step : (x t : ℤ) → int_wrap w64 (int_wrap w64 x +ℤ int_wrap w64 t) ≡ int_wrap w64 (x +ℤ t)
sum_step x t = int_wrap-add_left w64 x (int_wrap w64 t) ∙ int_wrap-add_right w64 x t

plus_nothing : (x : ℤ) → x ≡ x +ℤ pos 0
plus_nothing x = omega (arith, ints)

counted_count : (x : ℤ) (xs : List ℤ) → reported Count (x ∷ xs) ≡ Some (int_wrap w64 (total (x ∷ xs)))
counted_count x [] = ap (λ n. Some (int_wrap w64 n)) (plus_nothing x)
counted_count x (y ∷ ys) =
    ap (joined Count (Some (int_wrap w64 x))) (counted_count y ys) ∙ ap (λ n. Some n) (sum_step x (total (y ∷ ys)))

counted_sum : (x : ℤ) (xs : List ℤ) → reported LongSum (x ∷ xs) ≡ Some (int_wrap w64 (total (x ∷ xs)))
counted_sum x [] = ap (λ n. Some (int_wrap w64 n)) (plus_nothing x)
counted_sum x (y ∷ ys) =
    ap (joined LongSum (Some (int_wrap w64 x))) (counted_sum y ys) ∙ ap (λ n. Some n) (sum_step x (total (y ∷ ys)))

min_left : (x y : ℤ) → int_min x y ≤ℤ x
min_left x y = omega (arith, ints, clamps)

min_right : (x y : ℤ) → int_min x y ≤ℤ y
min_right x y = omega (arith, ints, clamps)

max_left : (x y : ℤ) → x ≤ℤ int_max x y
max_left x y = omega (arith, ints, clamps)

max_right : (x y : ℤ) → y ≤ℤ int_max x y
max_right x y = omega (arith, ints, clamps)

le_trans_ℤ : (x y z : ℤ) → x ≤ℤ y → y ≤ℤ z → x ≤ℤ z
le_trans_ℤ x y z p q = omega (arith, ints)

le_refl_ℤ : (x : ℤ) → x ≤ℤ x
le_refl_ℤ x = omega (arith, ints)

le_antisymm_ℤ : (x y : ℤ) → x ≤ℤ y → y ≤ℤ x → x ≡ y
le_antisymm_ℤ x y p q = omega (arith, ints)

min_one_of : (x y : ℤ) → (x ≡ int_min x y) ⊎ (y ≡ int_min x y)
min_one_of x y = by_lt_z x y (λ h. inl (omega (arith, ints, clamps))) (λ h. inr (omega (arith, ints, clamps)))

max_one_of : (x y : ℤ) → (x ≡ int_max x y) ⊎ (y ≡ int_max x y)
max_one_of x y = by_lt_z x y (λ h. inr (omega (arith, ints, clamps))) (λ h. inl (omega (arith, ints, clamps)))

contains_along : (xs : List ℤ) (x y : ℤ) → x ≡ y → Contains xs x → Contains xs y
contains_along xs x y e c = let P : ℤ → Type 0 = λ z. Contains xs z in subst P e c

least_more : (x y : ℤ) (xs : List ℤ) → IsLeast xs y → IsLeast (x ∷ xs) (int_min x y)
least_more x y xs l = record {
  one = ⊎_elim (λ e. contains_along (x ∷ xs) x _ e (Contains-here x xs)) (λ e. contains_along (x ∷ xs) y _ e (Contains-later x xs y l.one)) (min_one_of x y);
  below = All-cons (λ z. int_min x y ≤ℤ z) x xs (min_left x y)
      (All-weaker (λ z. y ≤ℤ z) (λ z. int_min x y ≤ℤ z) (λ z h. le_trans_ℤ _ y z (min_right x y) h) xs l.below);
}

greatest_more : (x y : ℤ) (xs : List ℤ) → IsGreatest xs y → IsGreatest (x ∷ xs) (int_max x y)
greatest_more x y xs l = record {
  one = ⊎_elim (λ e. contains_along (x ∷ xs) x _ e (Contains-here x xs)) (λ e. contains_along (x ∷ xs) y _ e (Contains-later x xs y l.one)) (max_one_of x y);
  above = All-cons (λ z. z ≤ℤ int_max x y) x xs (max_left x y)
      (All-weaker (λ z. z ≤ℤ y) (λ z. z ≤ℤ int_max x y) (λ z h. le_trans_ℤ z y _ h (max_right x y)) xs l.above);
}

counted_min : (x : ℤ) (xs : List ℤ) → (n : ℤ) × (reported LongMin (x ∷ xs) ≡ Some n) × IsLeast (x ∷ xs) n
counted_min x [] = (x, refl, record { one = Contains-here x []; below = All-cons (λ z. x ≤ℤ z) x [] (le_refl_ℤ x) (All-nil (λ z. x ≤ℤ z)) })
counted_min x (y ∷ ys) =
    let rest = counted_min y ys in
    (int_min x rest.0, ap (joined LongMin (Some x)) rest.1, least_more x rest.0 (y ∷ ys) rest.2)

counted_max : (x : ℤ) (xs : List ℤ) → (n : ℤ) × (reported LongMax (x ∷ xs) ≡ Some n) × IsGreatest (x ∷ xs) n
counted_max x [] = (x, refl, record { one = Contains-here x []; above = All-cons (λ z. z ≤ℤ x) x [] (le_refl_ℤ x) (All-nil (λ z. z ≤ℤ x)) })
counted_max x (y ∷ ys) =
    let rest = counted_max y ys in
    (int_max x rest.0, ap (joined LongMax (Some x)) rest.1, greatest_more x rest.0 (y ∷ ys) rest.2)

pub counted_is : (kind : AggregatorKind) (xs : List ℤ) → IsAggregate kind xs (reported kind xs)
counted_is kind [] = refl
counted_is Count (x ∷ xs) = (_, counted_count x xs, refl)
counted_is LongSum (x ∷ xs) = (_, counted_sum x xs, refl)
counted_is LongMin (x ∷ xs) = counted_min x xs
counted_is LongMax (x ∷ xs) = counted_max x xs

one_counted : (kind : AggregatorKind) (xs : List ℤ) (a b : ℤ) → IsReported kind xs a → IsReported kind xs b → a ≡ b
one_counted Count xs a b p q = p ∙ sym q
one_counted LongSum xs a b p q = p ∙ sym q
one_counted LongMin xs a b p q =
    le_antisymm_ℤ a b (All-contains (λ x. a ≤ℤ x) xs b p.below q.one) (All-contains (λ x. b ≤ℤ x) xs a q.below p.one)
one_counted LongMax xs a b p q =
    le_antisymm_ℤ a b (All-contains (λ x. x ≤ℤ b) xs a q.above p.one) (All-contains (λ x. x ≤ℤ a) xs b p.above q.one)

-- an aggregator tells one number of some numbers
pub one_aggregate : (kind : AggregatorKind) (xs : List ℤ) (a b : Option ℤ) → IsAggregate kind xs a → IsAggregate kind xs b → a ≡ b
one_aggregate kind [] a b p q = p ∙ sym q
one_aggregate kind (x ∷ xs) a b p q = p.1 ∙ ap (λ n. Some n) (one_counted kind (x ∷ xs) p.0 q.0 p.2 q.2) ∙ sym q.1

pub counted_alone : (kind : AggregatorKind) (xs : List ℤ) (a : Option ℤ) → IsAggregate kind xs a → a ≡ reported kind xs
counted_alone kind xs a p = one_aggregate kind xs a (reported kind xs) p (counted_is kind xs)
