-- A group, and then all of an array, joined to those of another.
use Rattle.std.proofs.Common.{◌≡◌, ◌∙◌, ℕ, zero, suc, ◌+◌, ◌<◌, ℤ, List, [], ◌∷◌, length, set, take, drop, get_or, true, false, Option, Some, None, refl, sym, ap, arith, take_all}
use Rattle.std.specs.Prelude.{option_map}
use Rattle.std.proofs.lemmas.List.{set-get_or, get_or-drop, drop-set-lt, drop-drop}
use Rattle.druid_query.specs.declared.aggregator.AggregatorKind.{AggregatorKind}
use Rattle.druid_partial.specs.Joined.{join_numbers}
use Rattle.druid_partial_scan.specs.Cells.{Filled, is_there, joined_cell, joined_cells}

-- ---- one group

pub numbers_long : (kinds : List AggregatorKind) (xs ys : List (Option ℤ)) → length (join_numbers kinds xs ys) ≡ length xs
numbers_long [] xs ys = refl
numbers_long (kind ∷ kinds) [] ys = refl
numbers_long (kind ∷ kinds) (x ∷ xs) [] = refl
numbers_long (kind ∷ kinds) (x ∷ xs) (y ∷ ys) = ap suc (numbers_long kinds xs ys)

-- where there is one of the cell
pub met : {K : Type 0} (groups : List (Option (Filled K))) (i : ℕ) (kinds : List AggregatorKind) (k : K) (more : List (Option ℤ)) → true ≡ is_there (get_or groups i None) → set groups i (option_map {U = Filled K} (λ (g : Filled K). (g.0, join_numbers kinds g.1 more)) (get_or groups i None)) ≡ set groups i (joined_cell kinds (get_or groups i None) (Some (k, more)))
met {K = K} groups i kinds k more e = ap (set groups i) (same (get_or groups i None) e)
  where
    same : (o : Option (Filled K)) → true ≡ is_there o → option_map {U = Filled K} (λ (g : Filled K). (g.0, join_numbers kinds g.1 more)) o ≡ joined_cell kinds o (Some (k, more))
    same None e = absurd (cc)
    same (Some g) e = refl

-- where there is none
pub unmet : {K : Type 0} (groups : List (Option (Filled K))) (i : ℕ) (kinds : List AggregatorKind) (k : K) (more : List (Option ℤ)) → false ≡ is_there (get_or groups i None) → set groups i (Some (k, more)) ≡ set groups i (joined_cell kinds (get_or groups i None) (Some (k, more)))
unmet {K = K} groups i kinds k more e = ap (set groups i) (same (get_or groups i None) e)
  where
    same : (o : Option (Filled K)) → false ≡ is_there o → Some (k, more) ≡ joined_cell kinds o (Some (k, more))
    same None e = refl
    same (Some g) e = absurd (cc)

-- ---- one cell more

pub none_joined : {K : Type 0} (kinds : List AggregatorKind) (xs : List (Option (Filled K))) → xs ≡ joined_cells kinds xs []
none_joined kinds [] = refl
none_joined kinds (x ∷ xs) = refl

joined_more : {K : Type 0} (kinds : List AggregatorKind) (xs ys : List (Option (Filled K))) (i : ℕ) → i < length xs → i < length ys → joined_cells kinds xs (take (i + 1) ys) ≡ set (joined_cells kinds xs (take i ys)) i (joined_cell kinds (get_or (joined_cells kinds xs (take i ys)) i None) (get_or ys i None))
joined_more kinds [] ys i h l = absurd (omega arith)
joined_more kinds (x ∷ xs) [] i h l = absurd (omega arith)
joined_more kinds (x ∷ xs) (y ∷ ys) zero h l = ap (λ r. joined_cell kinds x y ∷ r) (sym (none_joined kinds xs))
joined_more kinds (x ∷ xs) (y ∷ ys) (suc i) h l =
    let more : suc i + 1 ≡ suc (i + 1) = omega arith in
    ap (λ n. joined_cells kinds (x ∷ xs) (take n (y ∷ ys))) more
    ∙ ap (λ r. joined_cell kinds x y ∷ r) (joined_more kinds xs ys i (omega (arith, h)) (omega (arith, l)))

-- a cell of the other array that has a group
pub cell_joined : {K : Type 0} (kinds : List AggregatorKind) (xs ys now new : List (Option (Filled K))) (i : ℕ) (g : Filled K) → i < length xs → i < length ys → now ≡ joined_cells kinds xs (take i ys) → Some g ≡ get_or ys i None → new ≡ set now i (joined_cell kinds (get_or now i None) (Some g)) → new ≡ joined_cells kinds xs (take (i + 1) ys)
cell_joined kinds xs ys now new i g h l e s n =
    n ∙ ap (λ gs. set gs i (joined_cell kinds (get_or gs i None) (Some g))) e
    ∙ ap (λ o. set (joined_cells kinds xs (take i ys)) i (joined_cell kinds (get_or (joined_cells kinds xs (take i ys)) i None) o)) s
    ∙ sym (joined_more kinds xs ys i h l)

-- and one that has none
pub cell_passed : {K : Type 0} (kinds : List AggregatorKind) (xs ys now : List (Option (Filled K))) (i : ℕ) → i < length xs → i < length ys → now ≡ joined_cells kinds xs (take i ys) → None ≡ get_or ys i None → now ≡ joined_cells kinds xs (take (i + 1) ys)
cell_passed {K = K} kinds xs ys now i h l e s =
    let before = joined_cells kinds xs (take i ys) in
    e ∙ sym (set-get_or before i None)
    ∙ ap (set before i) (sym (alone (get_or before i None)) ∙ ap (joined_cell kinds (get_or before i None)) s)
    ∙ sym (joined_more kinds xs ys i h l)
  where
    alone : (o : Option (Filled K)) → joined_cell kinds o None ≡ o
    alone None = refl
    alone (Some g) = refl

pub cells_joined : {K : Type 0} (kinds : List AggregatorKind) (xs ys now : List (Option (Filled K))) (i : ℕ) → i ≡ length ys → now ≡ joined_cells kinds xs (take i ys) → now ≡ joined_cells kinds xs ys
cells_joined kinds xs ys now i end e = e ∙ ap (joined_cells kinds xs) (take_all i ys (omega (arith, end)))

-- ---- what is left of the other array

-- what was kept of a group, and is still there
pub kept_left : {X : Type 0} (all now : List X) (i : ℕ) (d : X) → drop i now ≡ drop i all → get_or now i d ≡ get_or all i d
kept_left {X = X} all now i d e = at now ∙ ap (λ l. get_or l 0 d) e ∙ sym (at all)
  where
    at : (xs : List X) → get_or xs i d ≡ get_or (drop i xs) 0 d
    at xs = sym (get_or-drop i xs 0 d ∙ ap (λ n. get_or xs n d) (omega arith))

pub left_more : {X : Type 0} (all now : List X) (i : ℕ) (x : X) → drop i now ≡ drop i all → drop (i + 1) (set now i x) ≡ drop (i + 1) all
left_more all now i x e = drop-set-lt (i + 1) now i x (omega arith) ∙ sym (drop-drop 1 i now) ∙ ap (drop 1) e ∙ drop-drop 1 i all
