-- Groups whose numbers stand in one array.
use Rattle.std.proofs.Common.{◌≡◌, ◌∙◌, ℕ, zero, suc, ◌+◌, ◌*◌, ◌<◌, ◌≤◌, ◌-◌, ℤ, List, [], ◌∷◌, ◌++◌, length, map, set, take, drop, get_or, replicate, Bool, true, false, Option, Some, None, Vec, Global, refl, sym, ap, arith, append_assoc}
use Rattle.std.specs.Prelude.{option_map, ◌^◌}
use Rattle.std.proofs.Math.Nat.{mul-le-mul_left, mul_comm}
use Rattle.std.proofs.Math.Seq.{take-add}
use Rattle.std.proofs.lemmas.List.{take_at, drop_at, drop-drop, length-drop, length-map, length-replicate, length-set, length-take-le, get_or-map, map-set, set-get_or, drop_more, map_more, set-append_right, get_or-set_same, get_or-drop, take_more, drop-set-lt, set-set}
use Rattle.druid_query.specs.declared.aggregator.AggregatorKind.{AggregatorKind}
use Rattle.druid_partial_scan.specs.Cells.{Cells, Filled, groups_from, is_there, joined_with, join_into, filled_with, cell_of, cells_in, with_row, AreParts}

-- the numbers of a cell lie within those of all
pub cell_inside : (cell n width : ℕ) → cell < n → cell * width + width ≤ n * width
cell_inside cell n width h =
    let up : width * (cell + 1) ≤ width * n = mul-le-mul_left width (omega (arith, h)) in
    let e = mul_comm width (cell + 1) in
    let f = mul_comm width n in
    let g : (cell + 1) * width ≡ cell * width + width = grind arith in
    omega (arith, up, e, f, g)

none_before : (width : ℕ) → zero * width ≡ zero
none_before width = grind arith

zero_more : (width : ℕ) → zero + width ≡ width
zero_more width = omega arith

later : (i width : ℕ) → suc i * width ≡ width + i * width
later i width = grind arith

pub groups_long : {K : Type 0} (width : ℕ) (kept : List (Option K)) (numbers : List (Option ℤ)) → length (groups_from width kept numbers) ≡ length kept
groups_long width [] numbers = refl
groups_long width (k ∷ kept) numbers = ap suc (groups_long width kept (drop width numbers))

-- what a cell has
pub group_in : {K : Type 0} (width : ℕ) (kept : List (Option K)) (numbers : List (Option ℤ)) (i : ℕ) (e : Option (Filled K)) (d : Option K) → i < length kept → get_or (groups_from width kept numbers) i e ≡ option_map (λ k. (k, take width (drop (i * width) numbers))) (get_or kept i d)
group_in width [] numbers i e d h = absurd (omega arith)
group_in width (k ∷ kept) numbers zero e d h = ap (λ n. option_map (λ x. (x, take width (drop n numbers))) k) (sym (none_before width))
group_in width (k ∷ kept) numbers (suc i) e d h =
    group_in width kept (drop width numbers) i e d (omega (arith, h))
    ∙ ap (λ l. option_map (λ x. (x, take width l)) (get_or kept i d)) (drop-drop (i * width) width numbers ∙ ap (λ n. drop n numbers) (sym (later i width)))

-- something else kept in a cell
pub kept_set : {K : Type 0} (width : ℕ) (kept : List (Option K)) (numbers : List (Option ℤ)) (i : ℕ) (o : Option K) → i < length kept → groups_from width (set kept i o) numbers ≡ set (groups_from width kept numbers) i (option_map (λ k. (k, take width (drop (i * width) numbers))) o)
kept_set width [] numbers i o h = absurd (omega arith)
kept_set width (k ∷ kept) numbers zero o h =
    ap (λ n. option_map (λ x. (x, take width (drop n numbers))) o ∷ groups_from width kept (drop width numbers)) (sym (none_before width))
kept_set width (k ∷ kept) numbers (suc i) o h =
    ap (λ l. option_map (λ k. (k, take width numbers)) k ∷ l)
    (kept_set width kept (drop width numbers) i o (omega (arith, h))
    ∙ ap (λ l. set (groups_from width kept (drop width numbers)) i (option_map (λ x. (x, take width l)) o)) (drop-drop (i * width) width numbers ∙ ap (λ n. drop n numbers) (sym (later i width))))

-- other numbers in a cell
spliced : (m width : ℕ) (numbers xs : List (Option ℤ)) → take (width + m) numbers ++ (xs ++ drop (width + m + width) numbers) ≡ take width numbers ++ (take m (drop width numbers) ++ (xs ++ drop (m + width) (drop width numbers)))
spliced m width numbers xs =
    let end : width + m + width ≡ width + (m + width) = omega arith in
    ap (λ l. l ++ (xs ++ drop (width + m + width) numbers)) (take-add width m numbers)
    ∙ append_assoc (take width numbers) (take m (drop width numbers)) (xs ++ drop (width + m + width) numbers)
    ∙ ap (λ n. take width numbers ++ (take m (drop width numbers) ++ (xs ++ drop n numbers))) end
    ∙ ap (λ l. take width numbers ++ (take m (drop width numbers) ++ (xs ++ l))) (sym (drop-drop (m + width) width numbers))

pub numbers_set : {K : Type 0} (width : ℕ) (kept : List (Option K)) (numbers xs : List (Option ℤ)) (i : ℕ) (d : Option K) → i < length kept → length numbers ≡ length kept * width → length xs ≡ width → groups_from width kept (take (i * width) numbers ++ (xs ++ drop (i * width + width) numbers)) ≡ set (groups_from width kept numbers) i (option_map (λ k. (k, xs)) (get_or kept i d))
numbers_set width [] numbers xs i d h long wide = absurd (omega arith)
numbers_set width (k ∷ kept) numbers xs zero d h long wide =
    let start : take (zero * width) numbers ++ (xs ++ drop (zero * width + width) numbers) ≡ xs ++ drop width numbers =
    ap (λ n. take n numbers ++ (xs ++ drop (n + width) numbers)) (none_before width) ∙ ap (λ n. xs ++ drop n numbers) (zero_more width) in
    ap (groups_from width (k ∷ kept)) start
    ∙ ap (λ l. option_map (λ k. (k, l)) k ∷ groups_from width kept (drop width (xs ++ drop width numbers))) (take_at xs (drop width numbers) width wide)
    ∙ ap (λ l. option_map (λ k. (k, xs)) k ∷ groups_from width kept l) (drop_at xs (drop width numbers) width wide)
numbers_set width (k ∷ kept) numbers xs (suc i) d h long wide =
    let all : length numbers ≡ width + length kept * width = long ∙ later (length kept) width in
    let front : length (take width numbers) ≡ width = length-take-le width numbers (omega (arith, all)) in
    let rest = take (i * width) (drop width numbers) ++ (xs ++ drop (i * width + width) (drop width numbers)) in
    ap (λ n. groups_from width (k ∷ kept) (take n numbers ++ (xs ++ drop (n + width) numbers))) (later i width)
    ∙ ap (groups_from width (k ∷ kept)) (spliced (i * width) width numbers xs)
    ∙ ap (λ l. option_map (λ k. (k, l)) k ∷ groups_from width kept (drop width (take width numbers ++ rest))) (take_at (take width numbers) rest width front)
    ∙ ap (λ l. option_map (λ k. (k, take width numbers)) k ∷ groups_from width kept l) (drop_at (take width numbers) rest width front)
    ∙ ap (λ l. option_map (λ k. (k, take width numbers)) k ∷ l) (numbers_set width kept (drop width numbers) xs i d (omega (arith, h)) (rest_long all) wide)
  where
    rest_long : length numbers ≡ width + length kept * width → length (drop width numbers) ≡ length kept * width
    rest_long e = length-drop width numbers ∙ omega (arith, e)

-- no groups
pub none_from : {K : Type 0} (width n : ℕ) (numbers : List (Option ℤ)) → groups_from {K = K} width (replicate n None) numbers ≡ replicate n None
none_from width zero numbers = refl
none_from width (suc n) numbers = ap (λ l. None ∷ l) (none_from width n (drop width numbers))

-- ---- marks

pub there_in : {X Y : Type 0} (f : X → Y) (o : Option X) → is_there o ≡ is_there (option_map f o)
there_in f None = refl
there_in f (Some x) = refl

pub parts_inside : {K : Type 0} (width : ℕ) (filled : List Bool) (kept : List (Option K)) (numbers : List (Option ℤ)) (groups : List (Option (Filled K))) (i : ℕ) → AreParts width filled kept numbers → groups_from width kept numbers ≡ groups → i < length groups → (i < length filled) × (i < length kept) × (i * width + width ≤ length numbers)
parts_inside width filled kept numbers groups i parts e h =
    let a : length groups ≡ length kept = sym (ap length e) ∙ groups_long width kept numbers in
    let b : length filled ≡ length kept = ap length parts.marks ∙ length-map kept is_there in
    let c = cell_inside i (length kept) width (omega (arith, a, h)) in
    let d = parts.long in
    (omega (arith, a, b, h), omega (arith, a, h), omega (arith, c, d))

-- where the parts of a cell lie
pub record HasPlace (width marks groups numbers i : ℕ) : Type 0 where
  pub mark : i < marks
  pub kept : i < groups
  pub to : i * width + width ≤ numbers
  pub from_small : i * width < 2 ^ 64
  pub to_small : i * width + width < 2 ^ 64

pub place_of : {K : Type 0} (width : ℕ) (filled : Vec Bool Global) (kept : Vec (Option K) Global) (numbers : Vec (Option ℤ) Global) (array : Cells K) (i : ℕ) → AreParts width filled.items kept.items numbers.items → record { width = width; groups = groups_from width kept.items numbers.items } ≡ array → i < length array.groups → HasPlace width filled.len kept.len (length numbers.items) i
place_of {K = K} width filled kept numbers array i parts e h =
    let inside = parts_inside width filled.items kept.items numbers.items array.groups i parts (ap (λ (v : Cells K). v.groups) e) h in
    let a = inside.0 in let b = inside.1 in let c = inside.2 in
    let m = filled.ok.0 in let k = kept.ok.0 in let n = numbers.ok.0 in let s = numbers.small in
    record { mark = omega (arith, m, a); kept = omega (arith, k, b); to = c; from_small = omega (arith, n, c, s); to_small = omega (arith, n, c, s) }

-- a mark says whether there is a group
pub mark_is : {K : Type 0} (width : ℕ) (filled : List Bool) (kept : List (Option K)) (numbers : List (Option ℤ)) (array : Cells K) (i : ℕ) (mark answer : Bool) → AreParts width filled kept numbers → record { width = width; groups = groups_from width kept numbers } ≡ array → i < length array.groups → mark ≡ get_or filled i mark → mark ≡ answer → answer ≡ is_there (get_or array.groups i None)
mark_is {K = K} width filled kept numbers array i mark answer parts e h m a =
    let shown = ap (λ (v : Cells K). v.groups) e in
    let inside = (parts_inside width filled kept numbers array.groups i parts shown h).1 in
    sym a ∙ m ∙ ap (λ l. get_or l i mark) parts.marks
    ∙ get_or-map is_there kept i None mark inside
    ∙ there_in (λ k. (k, take width (drop (i * width) numbers))) (get_or kept i None)
    ∙ ap is_there (sym (group_in width kept numbers i None None inside) ∙ ap (λ l. get_or l i None) shown)

-- a row joined where there is no group
pub absent : {K : Type 0} (groups : List (Option (Filled K))) (i : ℕ) (kinds : List AggregatorKind) (xs : List (Option ℤ)) → false ≡ is_there (get_or groups i None) → groups ≡ set groups i (joined_with kinds xs (get_or groups i None))
absent {K = K} groups i kinds xs e = sym (ap (set groups i) (same (get_or groups i None) e) ∙ set-get_or groups i None)
  where
    same : (o : Option (Filled K)) → false ≡ is_there o → joined_with kinds xs o ≡ o
    same None e = refl
    same (Some g) e = absurd (cc)

-- ---- a cell that is written

pub into_long : (kinds : List AggregatorKind) (xs ys : List (Option ℤ)) → length (join_into kinds xs ys) ≡ length ys
into_long [] xs ys = refl
into_long (kind ∷ kinds) [] ys = refl
into_long (kind ∷ kinds) (x ∷ xs) [] = refl
into_long (kind ∷ kinds) (x ∷ xs) (y ∷ ys) = ap suc (into_long kinds xs ys)

own_long : (i n width : ℕ) (numbers : List (Option ℤ)) → i < n → length numbers ≡ n * width → length (take width (drop (i * width) numbers)) ≡ width
own_long i n width numbers h long =
    let a = cell_inside i n width h in
    let b = length-drop (i * width) numbers in
    length-take-le width (drop (i * width) numbers) (omega (arith, a, b, long))

-- what is written through a slice
written_all : {X : Type 0} (n : ℕ) (new old : List X) → n ≡ length new → take n (new ++ drop (length new) old) ≡ new
written_all n new old e = rw e (take_at new (drop (length new) old) (length new) refl)

-- one number more written
pub written_more : {X Y : Type 0} (f : X → Y) (xs : List X) (old now : List Y) (i : ℕ) (y : Y) (d : X) → i < length xs → i < length old → y ≡ f (get_or xs i d) → now ≡ map f (take i xs) ++ drop i old → set now i y ≡ map f (take (i + 1) xs) ++ drop (i + 1) old
written_more f xs old now i y d h k e n =
    let front : length (map f (take i xs)) ≡ i = length-map (take i xs) f ∙ length-take-le i xs (omega (arith, h)) in
    let none : i - i ≡ zero = omega arith in
    ap (λ l. set l i y) (n ∙ ap (λ l. map f (take i xs) ++ l) (drop_more old i y k))
    ∙ set-append_right (map f (take i xs)) (get_or old i y ∷ drop (i + 1) old) i i y front (omega arith)
    ∙ ap (λ m. map f (take i xs) ++ set (get_or old i y ∷ drop (i + 1) old) m y) none
    ∙ sym (append_assoc (map f (take i xs)) (y ∷ []) (drop (i + 1) old))
    ∙ ap (λ v. (map f (take i xs) ++ v ∷ []) ++ drop (i + 1) old) e
    ∙ ap (λ l. l ++ drop (i + 1) old) (sym (map_more f xs i d h))

-- the parts with another group in a cell
pub parts_put : {K : Type 0} (width : ℕ) (filled marks : List Bool) (kept cells : List (Option K)) (numbers new : List (Option ℤ)) (i : ℕ) (o : Option K) (mark : Bool) → AreParts width filled kept numbers → cells ≡ set kept i o → marks ≡ set filled i mark → mark ≡ is_there o → length new ≡ length numbers → AreParts width marks cells new
parts_put width filled marks kept cells numbers new i o mark parts k m e n = record {
  marks = m ∙ ap (λ l. set l i mark) parts.marks ∙ ap (set (map is_there kept) i) e ∙ sym (map-set is_there kept i o) ∙ sym (ap (map is_there) k);
  long = n ∙ parts.long ∙ ap (λ l. l * width) (sym (ap length k ∙ length-set kept i o));
}

-- the same of a cell that is written through a slice of all numbers
pub parts_written : {K : Type 0} (width : ℕ) (filled : List Bool) (kept : List (Option K)) (numbers : Vec (Option ℤ) Global) (slice new : List (Option ℤ)) (i : ℕ) (k : K) → AreParts width filled kept numbers.items → slice ≡ numbers.items → length new ≡ length slice → AreParts width (set filled i true) (set kept i (Some k)) (take numbers.len (new ++ drop (length new) numbers.items))
parts_written width filled kept numbers slice new i k parts same long =
    let n = numbers.ok.0 in let s = ap length same in
    parts_put width filled (set filled i true) kept (set kept i (Some k)) numbers.items _ i (Some k) true parts refl refl refl
    (ap length (written_all numbers.len new numbers.items (omega (arith, n, s, long))) ∙ long ∙ s)

-- the groups then
pub cell_written : {K : Type 0} (width : ℕ) (filled : List Bool) (kept cells : List (Option K)) (numbers : Vec (Option ℤ) Global) (slice new xs : List (Option ℤ)) (array : Cells K) (i : ℕ) (o : Option K) → AreParts width filled kept numbers.items → record { width = width; groups = groups_from width kept numbers.items } ≡ array → i < length array.groups → slice ≡ numbers.items → length new ≡ length slice → length xs ≡ width → cells ≡ set kept i o → new ≡ take (i * width) slice ++ xs ++ drop (i * width + width) slice → groups_from width cells (take numbers.len (new ++ drop (length new) numbers.items)) ≡ set array.groups i (option_map (λ k. (k, xs)) o)
cell_written {K = K} width filled kept cells numbers slice new xs array i o parts e h same long wide put is =
    let all = numbers.items in
    let shown = ap (λ (v : Cells K). v.groups) e in
    let inside = (parts_inside width filled kept all array.groups i parts shown h).1 in
    let n = numbers.ok.0 in let s = ap length same in
    let placed = is ∙ ap (λ l. take (i * width) l ++ xs ++ drop (i * width + width) l) same ∙ append_assoc (take (i * width) all) xs (drop (i * width + width) all) in
    let there : get_or (set kept i o) i None ≡ o = get_or-set_same kept i o None inside in
    ap (groups_from width cells) (written_all numbers.len new all (omega (arith, n, s, long)) ∙ placed)
    ∙ ap (λ ks. groups_from width ks (take (i * width) all ++ (xs ++ drop (i * width + width) all))) put
    ∙ numbers_set width (set kept i o) all xs i None (let l = length-set kept i o in omega (arith, l, inside)) (parts.long ∙ ap (λ l. l * width) (sym (length-set kept i o))) wide
    ∙ ap (λ p. set (groups_from width (set kept i o) all) i (option_map (λ k. (k, xs)) p)) there
    ∙ ap (λ gs. set gs i (option_map (λ k. (k, xs)) o)) (kept_set width kept all i o inside)
    ∙ set-set (groups_from width kept all) i _ (option_map (λ k. (k, xs)) o)
    ∙ ap (λ gs. set gs i (option_map (λ k. (k, xs)) o)) shown

-- and where its numbers alone are written, from those that it had
pub numbers_written : {K : Type 0} (width : ℕ) (filled : List Bool) (kept : List (Option K)) (numbers : Vec (Option ℤ) Global) (slice new : List (Option ℤ)) (array : Cells K) (i : ℕ) (f : List (Option ℤ) → List (Option ℤ)) → ((xs : List (Option ℤ)) → length (f xs) ≡ length xs) → AreParts width filled kept numbers.items → record { width = width; groups = groups_from width kept numbers.items } ≡ array → i < length array.groups → slice ≡ numbers.items → length new ≡ length slice → new ≡ take (i * width) slice ++ f (take (i * width + width - i * width) (drop (i * width) slice)) ++ drop (i * width + width) slice → groups_from width kept (take numbers.len (new ++ drop (length new) numbers.items)) ≡ set array.groups i (option_map {U = Filled K} (λ (g : Filled K). (g.0, f g.1)) (get_or array.groups i None))
numbers_written {K = K} width filled kept numbers slice new array i f keeps parts e h same long is =
    let all = numbers.items in
    let shown = ap (λ (v : Cells K). v.groups) e in
    let inside = (parts_inside width filled kept all array.groups i parts shown h).1 in
    let span : i * width + width - i * width ≡ width = omega arith in
    let own = take width (drop (i * width) all) in
    let mine : take (i * width + width - i * width) (drop (i * width) slice) ≡ own = ap (λ w. take w (drop (i * width) slice)) span ∙ ap (λ l. take width (drop (i * width) l)) same in
    let here = get_or kept i None in
    cell_written width filled kept kept numbers slice new _ array i here parts e h same long (keeps _ ∙ ap length mine ∙ own_long i (length kept) width all inside parts.long) (sym (set-get_or kept i None)) is
    ∙ ap (set array.groups i)
    (ap (λ l. option_map (λ k. (k, f l)) here) mine ∙ moved here own
    ∙ ap (option_map {U = Filled K} (λ (g : Filled K). (g.0, f g.1))) (sym (group_in width kept all i None None inside) ∙ ap (λ gs. get_or gs i None) shown))
  where
    moved : (o : Option K) (ys : List (Option ℤ)) → option_map (λ k. (k, f ys)) o ≡ option_map {U = Filled K} (λ (g : Filled K). (g.0, f g.1)) (option_map (λ k. (k, ys)) o)
    moved None ys = refl
    moved (Some k) ys = refl

pub taken_groups : {K : Type 0} (width : ℕ) (filled : List Bool) (kept cells : List (Option K)) (numbers : List (Option ℤ)) (groups : List (Option (Filled K))) (i : ℕ) → AreParts width filled kept numbers → groups_from width kept numbers ≡ groups → i < length groups → cells ≡ set kept i None → groups_from width cells numbers ≡ set groups i None
taken_groups width filled kept cells numbers groups i parts e h c =
    let inside = (parts_inside width filled kept numbers groups i parts e h).1 in
    ap (λ l. groups_from width l numbers) c ∙ kept_set width kept numbers i None inside ∙ ap (λ gs. set gs i None) e

pub taken_is : {K : Type 0} (width : ℕ) (filled : List Bool) (kept : List (Option K)) (numbers own : List (Option ℤ)) (groups : List (Option (Filled K))) (i : ℕ) (o e : Option K) (k : K) → AreParts width filled kept numbers → groups_from width kept numbers ≡ groups → i < length groups → o ≡ get_or kept i e → o ≡ Some k → own ≡ take (i * width + width - i * width) (drop (i * width) numbers) → Some (k, own) ≡ get_or groups i None
taken_is width filled kept numbers own groups i o e k parts v h f s n =
    let inside = (parts_inside width filled kept numbers groups i parts v h).1 in
    let wide : i * width + width - i * width ≡ width = omega arith in
    let mine = n ∙ ap (λ w. take w (drop (i * width) numbers)) wide in
    ap (λ l. Some (k, l)) mine
    ∙ ap (option_map (λ x. (x, take width (drop (i * width) numbers)))) (sym s ∙ f)
    ∙ sym (group_in width kept numbers i None e inside)
    ∙ ap (λ gs. get_or gs i None) v

pub none_is : {K : Type 0} (width : ℕ) (filled : List Bool) (kept : List (Option K)) (numbers : List (Option ℤ)) (groups : List (Option (Filled K))) (i : ℕ) (o e : Option K) → AreParts width filled kept numbers → groups_from width kept numbers ≡ groups → i < length groups → o ≡ get_or kept i e → o ≡ None → None ≡ get_or groups i None
none_is width filled kept numbers groups i o e parts v h f s =
    let inside = (parts_inside width filled kept numbers groups i parts v h).1 in
    ap (option_map (λ x. (x, take width (drop (i * width) numbers)))) (sym s ∙ f)
    ∙ sym (group_in width kept numbers i None e inside)
    ∙ ap (λ gs. get_or gs i None) v

pub no_parts : {K : Type 0} (width room : ℕ) (filled : List Bool) (kept : List (Option K)) (numbers : List (Option ℤ)) → filled ≡ replicate room false → kept ≡ replicate room None → length numbers ≡ room * width → AreParts width filled kept numbers
no_parts {K = K} width room filled kept numbers f k n = record {
  marks = f ∙ none room ∙ sym (ap (map is_there) k);
  long = n ∙ ap (λ l. l * width) (sym (ap length k ∙ length-replicate room None));
}
  where
    none : (n : ℕ) → replicate n false ≡ map (is_there {X = K}) (replicate n None)
    none zero = refl
    none (suc n) = ap (λ l. false ∷ l) (none n)

-- ---- a row in its cell

pub filled_joined : {K : Type 0} (old mid : List (Option (Filled K))) (i : ℕ) (kinds : List AggregatorKind) (k : K) (xs : List (Option ℤ)) (there : Bool) → there ≡ is_there (get_or old i None) → there ≡ true → mid ≡ set old i (joined_with kinds xs (get_or old i None)) → mid ≡ set old i (Some (filled_with kinds k xs (get_or old i None)))
filled_joined {K = K} old mid i kinds k xs there t y m = m ∙ ap (set old i) (same (get_or old i None) (sym y ∙ t))
  where
    same : (o : Option (Filled K)) → true ≡ is_there o → joined_with kinds xs o ≡ Some (filled_with kinds k xs o)
    same None e = absurd (cc)
    same (Some g) e = refl

pub filled_put : {K : Type 0} (old mid new : List (Option (Filled K))) (i : ℕ) (kinds : List AggregatorKind) (k : K) (xs : List (Option ℤ)) (there : Bool) → there ≡ is_there (get_or old i None) → there ≡ false → mid ≡ set old i (joined_with kinds xs (get_or old i None)) → new ≡ set mid i (Some (k, xs)) → new ≡ set old i (Some (filled_with kinds k xs (get_or old i None)))
filled_put {K = K} old mid new i kinds k xs there t y m n =
    n ∙ ap (λ l. set l i (Some (k, xs))) m ∙ set-set old i (joined_with kinds xs (get_or old i None)) (Some (k, xs))
    ∙ ap (λ g. set old i (Some g)) (same (get_or old i None) (sym y ∙ t))
  where
    same : (o : Option (Filled K)) → false ≡ is_there o → (k, xs) ≡ filled_with kinds k xs o
    same None e = refl
    same (Some g) e = absurd (cc)

pub cells_filled : (old new : List (Option (Filled ℕ))) (i row : ℕ) (kinds : List AggregatorKind) (xs : List (Option ℤ)) → i < length old → new ≡ set old i (Some (filled_with kinds row xs (get_or old i None))) → cells_in new ≡ set (cells_in old) i (Some (with_row kinds row xs (get_or (cells_in old) i None)))
cells_filled old new i row kinds xs h e =
    ap cells_in e ∙ map-set (option_map cell_of) old i (Some (filled_with kinds row xs (get_or old i None)))
    ∙ ap (λ c. set (cells_in old) i (Some c)) (same (get_or old i None) ∙ ap (with_row kinds row xs) (sym (get_or-map (option_map cell_of) old i None None h)))
  where
    same : (o : Option (Filled ℕ)) → cell_of (filled_with kinds row xs o) ≡ with_row kinds row xs (option_map cell_of o)
    same None = refl
    same (Some g) = refl

-- one number more copied
pub copied_more : {X : Type 0} (xs : List X) (from i : ℕ) (d : X) → from ≤ i → i < length xs → take (i + 1 - from) (drop from xs) ≡ take (i - from) (drop from xs) ++ get_or xs i d ∷ []
copied_more xs from i d h k =
    let a : i + 1 - from ≡ i - from + 1 = omega arith in
    let b : from + (i - from) ≡ i = omega arith in
    let l = length-drop from xs in
    ap (λ n. take n (drop from xs)) a ∙ take_more (drop from xs) (i - from) d (omega (arith, l, h, k))
    ∙ ap (λ v. take (i - from) (drop from xs) ++ v ∷ []) (get_or-drop from xs (i - from) d ∙ ap (λ n. get_or xs n d) b)

-- ---- groups taken out in order

pub taken_left : {X Y : Type 0} (f : X → Y) (old new : List (Option X)) (i : ℕ) → i < length old → new ≡ set old i None → drop i (map (option_map f) old) ≡ option_map f (get_or old i None) ∷ drop (i + 1) (map (option_map f) new)
taken_left f old new i h e =
    let all = map (option_map f) old in
    let long = length-map old (option_map f) in
    drop_more all i None (omega (arith, h, long))
    ∙ ap (λ o. o ∷ drop (i + 1) all) (get_or-map (option_map f) old i None None h)
    ∙ ap (λ l. option_map f (get_or old i None) ∷ l)
    (sym (ap (λ l. drop (i + 1) (map (option_map f) l)) e ∙ ap (drop (i + 1)) (map-set (option_map f) old i None) ∙ drop-set-lt (i + 1) all i None (omega arith)))

pub no_cells_map : {X Y : Type 0} (f : X → Y) (n : ℕ) → map (option_map f) (replicate n None) ≡ replicate n None
no_cells_map f zero = refl
no_cells_map f (suc n) = ap (λ l. None ∷ l) (no_cells_map f n)
