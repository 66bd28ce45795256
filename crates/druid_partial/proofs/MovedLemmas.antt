-- What pieces tell, halved, and in whatever order they stand.
use Rattle.std.proofs.Common.{◌≡◌, ◌∙◌, ◌⊎◌, ◌<◌, ℕ, zero, suc, List, [], ◌∷◌, ◌++◌, length, get_or, take, drop, refl, sym, ap, subst, inl, inr, ⊎_elim, arith}
use Rattle.std.specs.List.{flat_map}
use Rattle.std.specs.Prelude.{set, swap}
use Rattle.std.specs.List.Sorted.{IsPermutation}
use Rattle.std.proofs.lemmas.List.{append-nil, set-set, set_comm, set-get_or, take-append-drop}
use Rattle.std.proofs.lemmas.List.Concat.{flat_map-append}
use Rattle.std.proofs.lemmas.List.Edits.{swap_is}
use Rattle.std.proofs.lemmas.List.Sorted.{IsPermutation-keeps}
use Rattle.druid_query.specs.declared.aggregator.AggregatorKind.{AggregatorKind}
use Rattle.druid_query.specs.Query.{Query}
use Rattle.druid_partial.specs.Groups.{Group, IsResult, IsMerge}
use Rattle.druid_partial.specs.Partials.{Partial, kinds_of, IsPartialFor}
use Rattle.druid_partial.proofs.GroupLemmas.{Alike, result_alike, alike_append, alike_itself, merge_of_results, alike_through, alike_equal, second_first}

module _ {X : Type 0} (kinds : List AggregatorKind) (reports : X → List Group) where
  abbrev all : List X → List Group
  all xs = flat_map reports xs

  -- an element in front and one after it change places
  first_changes : (x : X) (ys : List X) (j : ℕ) → j < length ys → Alike kinds (reports x ++ all ys) (reports (get_or ys j x) ++ all (set ys j x))
  first_changes x [] j below = absurd (omega arith)
  first_changes x (y ∷ ys) zero below = second_first kinds (reports x) (reports y) (all ys)
  first_changes x (y ∷ ys) (suc j) below =
      let there = get_or ys j x in
      alike_through kinds (reports x ++ (reports y ++ all ys)) (reports y ++ (reports x ++ all ys)) (reports there ++ (reports y ++ all (set ys j x)))
      (second_first kinds (reports x) (reports y) (all ys))
      (alike_through kinds (reports y ++ (reports x ++ all ys)) (reports y ++ (reports there ++ all (set ys j x))) (reports there ++ (reports y ++ all (set ys j x)))
      (alike_append kinds (reports y) (reports y) (reports x ++ all ys) (reports there ++ all (set ys j x)) (alike_itself kinds (reports y)) (first_changes x ys j (omega arith)))
      (second_first kinds (reports y) (reports there) (all (set ys j x))))

  -- two elements change places
  two_change : (xs : List X) (i j : ℕ) (d : X) → i < j → j < length xs → Alike kinds (all xs) (all (set (set xs i (get_or xs j d)) j (get_or xs i d)))
  two_change [] i j d rise below = absurd (omega arith)
  two_change (x ∷ xs) zero zero d rise below = absurd (omega arith)
  two_change (x ∷ xs) zero (suc j) d rise below =
      subst (λ (y : X). Alike kinds (reports x ++ all xs) (reports y ++ all (set xs j x))) (any_default xs j x d (omega arith)) (first_changes x xs j (omega arith))
    where
      any_default : (ys : List X) (k : ℕ) (a b : X) → k < length ys → get_or ys k a ≡ get_or ys k b
      any_default [] k a b h = absurd (omega arith)
      any_default (y ∷ ys) zero a b h = refl
      any_default (y ∷ ys) (suc k) a b h = any_default ys k a b (omega arith)
  two_change (x ∷ xs) (suc i) zero d rise below = absurd (omega arith)
  two_change (x ∷ xs) (suc i) (suc j) d rise below =
      alike_append kinds (reports x) (reports x) (all xs) (all (set (set xs i (get_or xs j d)) j (get_or xs i d)))
      (alike_itself kinds (reports x)) (two_change xs i j d (omega arith) (omega arith))

  abbrev exchanged : List X → ℕ → ℕ → X → List X
  exchanged xs i j d = set (set xs i (get_or xs j d)) j (get_or xs i d)

  any_two_change : (xs : List X) (i j : ℕ) (d : X) → i < length xs → j < length xs → Alike kinds (all xs) (all (exchanged xs i j d))
  any_two_change xs i j d li lj = ⊎_elim (λ l. two_change xs i j d l lj) (λ o. ⊎_elim (λ e. same i j e) (λ g. flipped g) o) (which i j)
    where
      which : (i j : ℕ) → (i < j) ⊎ (i ≡ j) ⊎ (j < i)
      which zero zero = inr (inl refl)
      which zero (suc j) = inl (omega arith)
      which (suc i) zero = inr (inr (omega arith))
      which (suc i) (suc j) = ⊎_elim (λ l. inl (omega arith)) (λ o. ⊎_elim (λ e. inr (inl (ap (λ n. suc n) e))) (λ g. inr (inr (omega arith))) o) (which i j)

      same : (i j : ℕ) → i ≡ j → Alike kinds (all xs) (all (exchanged xs i j d))
      same i j e =
          subst (λ (k : ℕ). Alike kinds (all xs) (all (exchanged xs i k d))) e
          (alike_equal kinds _ _ (ap all (sym (set-set xs i (get_or xs i d) (get_or xs i d) ∙ set-get_or xs i d))))

      flipped : j < i → Alike kinds (all xs) (all (exchanged xs i j d))
      flipped g =
          subst (λ (ys : List X). Alike kinds (all xs) (all ys)) (set_comm xs j i (get_or xs i d) (get_or xs j d) (λ e. absurd (omega (arith, e))))
          (two_change xs j i d g li)

  swap_alike : (xs : List X) (i j : ℕ) → i < length xs → j < length xs → Alike kinds (all xs) (all (swap xs i j))
  swap_alike [] i j li lj = absurd (omega arith)
  swap_alike (x ∷ xs) i j li lj =
      subst (λ (ys : List X). Alike kinds (all (x ∷ xs)) (all ys)) (swap_is (x ∷ xs) i j x li lj) (any_two_change (x ∷ xs) i j x li lj)

  pub moved_alike : (xs ys : List X) → IsPermutation xs ys → Alike kinds (flat_map reports xs) (flat_map reports ys)
  moved_alike xs ys moved =
      IsPermutation-keeps xs (λ zs. Alike kinds (all xs) (all zs)) (alike_itself kinds (all xs))
      (λ zs i j li lj kept. alike_through kinds (all xs) (all zs) (all (swap zs i j)) kept (swap_alike zs i j li lj)) ys moved

  -- the result over what pieces tell is the same in whatever order they stand
  pub moved_result : (xs ys : List X) (groups : List Group) → IsPermutation xs ys → IsResult kinds (flat_map reports ys) groups → IsResult kinds (flat_map reports xs) groups
  moved_result xs ys groups moved result =
      let alike = moved_alike xs ys moved in
      result_alike kinds (flat_map reports ys) (flat_map reports xs) groups (record { to = alike.back; back = alike.to; same = λ place kind k key. sym (alike.same place kind k key) }) result

-- the merge of what the two halves tell is what all tell
pub halves_result : {X : Type 0} (query : Query) (reports : X → List Group) (xs front back : List X) (n : ℕ) (left right both : Partial) → front ≡ take n xs → back ≡ drop n xs
    → IsResult (kinds_of query) (flat_map reports front) left.groups → IsPartialFor query left → IsResult (kinds_of query) (flat_map reports back) right.groups
    → IsMerge left.kinds left.groups right.groups both.groups → IsResult (kinds_of query) (flat_map reports xs) both.groups
halves_result query reports xs front back n left right both e f p of_query q merge =
    let merged : IsMerge (kinds_of query) left.groups right.groups both.groups = subst (λ (kinds : List AggregatorKind). IsMerge kinds left.groups right.groups both.groups) of_query.kinds merge in
    let whole : flat_map reports front ++ flat_map reports back ≡ flat_map reports xs = sym (flat_map-append reports front back) ∙ ap (flat_map reports) ((λ i. e i ++ f i) ∙ take-append-drop n xs) in
    subst (λ (rows : List Group). IsResult (kinds_of query) rows both.groups) whole
    (merge_of_results (kinds_of query) (flat_map reports front) (flat_map reports back) left.groups right.groups both.groups p q merged)

-- what one piece tells alone
pub piece_result : {X : Type 0} (query : Query) (reports : X → List Group) (x : X) (groups : List Group) → IsResult (kinds_of query) (flat_map reports (x ∷ [])) groups → IsResult (kinds_of query) (reports x) groups
piece_result query reports x groups result = subst (λ rows. IsResult (kinds_of query) rows groups) (append-nil (reports x)) result
