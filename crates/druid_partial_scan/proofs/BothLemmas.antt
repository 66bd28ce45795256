-- Two arrays of groups over the same texts, joined cell by cell.
use Rattle.std.proofs.Common.{◌≡◌, ◌∙◌, ℕ, zero, suc, List, [], ◌∷◌, ◌++◌, length, take, drop, Option, Some, None, refl, sym, ap, subst, arith}
use Rattle.std.specs.Prelude.{All, slice_get, option_map}
use Rattle.std.specs.Borrow.{Bor}
use Rattle.std.specs.Ordering.{nat_cmp, match_ordering}
use Rattle.std.specs.declared.cmp.Ordering.TheVariants.{Less, Equal, Greater}
use Rattle.std.specs.List.{flat_map}
use Rattle.std.proofs.lemmas.List.{length-map, take-append-drop}
use Rattle.std.proofs.lemmas.List.Concat.{flat_map-append}
use Rattle.std.proofs.lemmas.List.Elements.{All-contains}
use Rattle.druid_base.proofs.ClauseLemmas.{if_some}
use Rattle.druid_base.proofs.OrderLemmas.{nat_cmp-lt, nat_cmp-gt}
use Rattle.druid_query.specs.Query.{Query}
use Rattle.druid_query.specs.declared.aggregator.AggregatorKind.{AggregatorKind}
use Rattle.druid_partial.specs.Groups.{Group, Key, key_cmp}
use Rattle.druid_partial.specs.Joined.{join_groups, put, merged}
use Rattle.druid_partial.specs.Partials.{kinds_of, HasNumbers, IsGroupFor}
use Rattle.druid_partial.proofs.GroupLemmas.{merge_of_results}
use Rattle.druid_partial.proofs.MergedLemmas.{merged_is_merge}
use Rattle.druid_partial.proofs.JoinLemmas.{merged_each, has_joined, group_for}
use Rattle.druid_partial_scan.specs.Cells.{Filled, Cells, joined_cell, joined_cells}
use Rattle.druid_partial_scan.specs.Scans.{AreCounted}
use Rattle.druid_partial_scan.specs.Slices.{Texts, IsRising, IsHeld, AreHeld, group_of, groups_held, present, texts_in, IsTally, AreTallied}
use Rattle.druid_partial_scan.specs.SliceGroups.{Slice, slice_groups}
use Rattle.druid_partial_scan.proofs.RadixLemmas.{equal_is}
use Rattle.druid_partial_scan.proofs.RankLemmas.{next_rank}
use Rattle.druid_partial_scan.proofs.SliceLemmas.{held_order}

-- ---- the same of groups with their keys

abbrev both_held : List AggregatorKind → Option Group → Option Group → Option Group
both_held kinds None theirs = theirs
both_held kinds (Some g) None = Some g
both_held kinds (Some g) (Some h) = Some (join_groups kinds g h)

abbrev all_held : List AggregatorKind → List (Option Group) → List (Option Group) → List (Option Group)
all_held kinds [] ys = []
all_held kinds (x ∷ xs) [] = x ∷ xs
all_held kinds (x ∷ xs) (y ∷ ys) = both_held kinds x y ∷ all_held kinds xs ys

held_both : (kinds : List AggregatorKind) (x y : Option (Filled Key)) → option_map group_of (joined_cell kinds x y) ≡ both_held kinds (option_map group_of x) (option_map group_of y)
held_both kinds None y = refl
held_both kinds (Some g) None = refl
held_both kinds (Some g) (Some h) = refl

held_all : (kinds : List AggregatorKind) (xs ys : List (Option (Filled Key))) → groups_held (joined_cells kinds xs ys) ≡ all_held kinds (groups_held xs) (groups_held ys)
held_all kinds [] ys = refl
held_all kinds (x ∷ xs) [] = refl
held_all kinds (x ∷ xs) (y ∷ ys) = λ i. held_both kinds x y i ∷ held_all kinds xs ys i

-- ---- what is there then is the merge

-- a group before those of the cells is put in front
put_front : (kinds : List AggregatorKind) (g : Group) (rest : List Group → List Group) (cells : List (Option Group)) → ((i : ℕ) (h : Group) → slice_get cells i ≡ Some (Some h) → key_cmp g.key h.key ≡ Less) → put kinds g rest (present cells) ≡ g ∷ rest (present cells)
put_front kinds g rest [] each = refl
put_front kinds g rest (None ∷ cells) each = put_front kinds g rest cells (λ i h e. each (suc i) h e)
put_front kinds g rest (Some d ∷ cells) each =
    ap (λ o. match_ordering o (g ∷ rest (d ∷ present cells)) (join_groups kinds g d ∷ rest (present cells)) (d ∷ put kinds g rest (present cells))) (each 0 d refl)

-- and so is one of the second list
merged_front : (kinds : List AggregatorKind) (h : Group) (hs : List Group) (cells : List (Option Group)) → ((i : ℕ) (g : Group) → slice_get cells i ≡ Some (Some g) → key_cmp g.key h.key ≡ Greater) → merged kinds (present cells) (h ∷ hs) ≡ h ∷ merged kinds (present cells) hs
merged_front kinds h hs [] each = refl
merged_front kinds h hs (None ∷ cells) each = merged_front kinds h hs cells (λ i g e. each (suc i) g e)
merged_front kinds h hs (Some g ∷ cells) each =
    ap (λ o. match_ordering o (g ∷ merged kinds (present cells) (h ∷ hs)) (join_groups kinds g h ∷ merged kinds (present cells) hs) (h ∷ put kinds g (merged kinds (present cells)) hs)) (each 0 g refl)

-- groups in two arrays are in the order of their places
abbrev InPlaces : List (Option Group) → List (Option Group) → Type 0
InPlaces xs ys = (i j : ℕ) (g h : Group) → slice_get xs i ≡ Some (Some g) → slice_get ys j ≡ Some (Some h) → key_cmp g.key h.key ≡ nat_cmp i j

later_places : (x y : Option Group) (xs ys : List (Option Group)) → InPlaces (x ∷ xs) (y ∷ ys) → InPlaces xs ys
later_places x y xs ys each i j g h p q = each (suc i) (suc j) g h p q ∙ sym (next_rank i j)

present_all : (kinds : List AggregatorKind) (xs ys : List (Option Group)) → length xs ≡ length ys → InPlaces xs ys → present (all_held kinds xs ys) ≡ merged kinds (present xs) (present ys)
present_all kinds [] [] w each = refl
present_all kinds [] (y ∷ ys) w each = absurd (omega (arith, w))
present_all kinds (x ∷ xs) [] w each = absurd (omega (arith, w))
present_all kinds (None ∷ xs) (None ∷ ys) w each = present_all kinds xs ys (omega (arith, w)) (later_places None None xs ys each)
present_all kinds (None ∷ xs) (Some h ∷ ys) w each =
    ap (λ l. h ∷ l) (present_all kinds xs ys (omega (arith, w)) (later_places None (Some h) xs ys each))
    ∙ sym (merged_front kinds h (present ys) xs (λ i g e. each (suc i) 0 g h e refl ∙ nat_cmp-gt (suc i) 0 (omega arith)))
present_all kinds (Some g ∷ xs) (None ∷ ys) w each =
    ap (λ l. g ∷ l) (present_all kinds xs ys (omega (arith, w)) (later_places (Some g) None xs ys each))
    ∙ sym (put_front kinds g (merged kinds (present xs)) ys (λ j h e. each 0 (suc j) g h refl e ∙ nat_cmp-lt 0 (suc j) (omega arith)))
present_all kinds (Some g ∷ xs) (Some h ∷ ys) w each =
    let tied : key_cmp g.key h.key ≡ Equal = each 0 0 g h refl refl ∙ equal_is 0 0 refl in
    ap (λ l. join_groups kinds g h ∷ l) (present_all kinds xs ys (omega (arith, w)) (later_places (Some g) (Some h) xs ys each))
    ∙ sym (ap (λ o. match_ordering o (g ∷ merged kinds (present xs) (h ∷ present ys)) (join_groups kinds g h ∷ merged kinds (present xs) (present ys)) (h ∷ put kinds g (merged kinds (present xs)) (present ys))) tied)

-- ---- each group in its cell

abbrev At : (ℕ → Group → Type 0) → List (Option Group) → Type 0
At P cells = (place : ℕ) (g : Group) → slice_get cells place ≡ Some (Some g) → P place g

all_at : (kinds : List AggregatorKind) (P : ℕ → Group → Type 0) → ((place : ℕ) (g h : Group) → P place g → P place h → P place (join_groups kinds g h)) → (xs ys : List (Option Group)) → At P xs → At P ys → At P (all_held kinds xs ys)
all_at kinds P both [] ys p q place g e = absurd (cc)
all_at kinds P both (x ∷ xs) [] p q place g e = p place g e
all_at kinds P both (None ∷ xs) (y ∷ ys) p q zero g e = q zero g e
all_at kinds P both (Some a ∷ xs) (None ∷ ys) p q zero g e = p zero g e
all_at kinds P both (Some a ∷ xs) (Some b ∷ ys) p q zero g e =
    let same : join_groups kinds a b ≡ g = cc in
    subst (P zero) same (both zero a b (p zero a refl) (q zero b refl))
all_at kinds P both (x ∷ xs) (y ∷ ys) p q (suc place) g e =
    all_at kinds (λ i h. P (suc i) h) (λ i. both (suc i)) xs ys (λ i h f. p (suc i) h f) (λ i h f. q (suc i) h f) place g e

joined_is_held : (query : Query) (texts : Texts) (place : ℕ) (g h : Group) → IsHeld query texts place g → IsHeld query texts place h → IsHeld query texts place (join_groups (kinds_of query) g h)
joined_is_held query texts place g h p q = record {
  bucket_is = p.bucket_is;
  codes = p.codes;
  fits = p.fits;
  values_are = p.values_are;
  place_is = p.place_is;
  numbers = has_joined (kinds_of query) g h p.numbers q.numbers;
}

-- ---- rows that were counted apart

merged_counted : (query : Query) (a b x y : List Group) → AreCounted query a x → AreCounted query b y → AreCounted query (a ++ b) (merged (kinds_of query) x y)
merged_counted query a b x y p q =
    let kinds = kinds_of query in
    record {
      result = merge_of_results kinds a b x y (merged kinds x y) p.result q.result
          (merged_is_merge kinds x y p.result.ordered (λ g c. All-contains (HasNumbers kinds) x g p.numbers c) q.result.ordered (λ g c. All-contains (HasNumbers kinds) y g q.numbers c));
      numbers = merged_each kinds (HasNumbers kinds) (has_joined kinds) x y p.numbers q.numbers;
      each = merged_each kinds (IsGroupFor query) (group_for query) x y p.each q.each;
    }

-- what two parts of the slices tell
reported_both : (query : Query) (slices front back : List Slice) (n : ℕ) → front ≡ take n slices → back ≡ drop n slices → flat_map (slice_groups query) slices ≡ flat_map (slice_groups query) front ++ flat_map (slice_groups query) back
reported_both query slices front back n f b =
    ap (flat_map (slice_groups query)) (sym ((λ i. f i ++ b i) ∙ take-append-drop n slices)) ∙ flat_map-append (slice_groups query) front back

joined_long : (kinds : List AggregatorKind) (xs ys : List (Option (Filled Key))) → length (joined_cells kinds xs ys) ≡ length xs
joined_long kinds [] ys = refl
joined_long kinds (x ∷ xs) [] = refl
joined_long kinds (x ∷ xs) (y ∷ ys) = ap suc (joined_long kinds xs ys)

-- arrays of rows apart, joined, are that of all rows
both_rows : (query : Query) (texts : Texts) (a b rows : List Group) (mine theirs new : Cells Key) → All IsRising texts → rows ≡ a ++ b → new.width ≡ mine.width → new.groups ≡ joined_cells (kinds_of query) mine.groups theirs.groups → IsTally query texts a mine → IsTally query texts b theirs → IsTally query texts rows new
both_rows query texts a b rows mine theirs new rising both w is p q =
    let kinds = kinds_of query in
    let xs = groups_held mine.groups in
    let ys = groups_held theirs.groups in
    let whole : groups_held new.groups ≡ all_held kinds xs ys = ap groups_held is ∙ held_all kinds mine.groups theirs.groups in
    let long : length xs ≡ length ys = length-map mine.groups (option_map group_of) ∙ p.room.long ∙ sym (length-map theirs.groups (option_map group_of) ∙ q.room.long) in
    let there : present (all_held kinds xs ys) ≡ merged kinds (present xs) (present ys) =
    present_all kinds xs ys long (λ i j g h d e. held_order query texts i j g h rising (p.held i g d) (q.held j h e)) in
    let H : List (Option Group) → Type 0 = AreHeld query texts in
    let C : List Group → Type 0 = AreCounted query rows in
    let R : List Group → Type 0 = λ l. AreCounted query l (merged kinds (present xs) (present ys)) in
    record {
      room = record { width = w ∙ p.room.width; long = ap length is ∙ joined_long kinds mine.groups theirs.groups ∙ p.room.long };
      held = subst H (sym whole) (all_at kinds (IsHeld query texts) (joined_is_held query texts) xs ys p.held q.held);
      counted = subst C (sym (ap present whole ∙ there)) (subst R (sym both) (merged_counted query a b (present xs) (present ys) p.counted q.counted));
    }

-- ---- the arrays of two parts of the slices

-- they have one room
pub both_alike : (query : Query) (lists : List (Bor (List (Bor (List ℕ))))) (front back : List Slice) (left right : Option (Cells Key)) (mine theirs : Cells Key) → left ≡ Some mine → right ≡ Some theirs → AreTallied query lists front left → AreTallied query lists back right → (theirs.width ≡ mine.width) × (length theirs.groups ≡ length mine.groups)
both_alike query lists front back left right mine theirs l r a b =
    let texts = texts_in lists in
    let p = if_some (IsTally query texts (flat_map (slice_groups query) front)) left mine l a in
    let q = if_some (IsTally query texts (flat_map (slice_groups query) back)) right theirs r b in
    (q.room.width ∙ sym p.room.width, q.room.long ∙ sym p.room.long)

pub both_tallied : (query : Query) (lists : List (Bor (List (Bor (List ℕ))))) (slices front back : List Slice) (n : ℕ) (left right : Option (Cells Key)) (mine theirs new : Cells Key) → All IsRising (texts_in lists) → front ≡ take n slices → back ≡ drop n slices → new.width ≡ mine.width → new.groups ≡ joined_cells (kinds_of query) mine.groups theirs.groups → left ≡ Some mine → right ≡ Some theirs → AreTallied query lists front left → AreTallied query lists back right → AreTallied query lists slices (Some new)
both_tallied query lists slices front back n left right mine theirs new rising f s w is l r a b =
    let texts = texts_in lists in
    both_rows query texts (flat_map (slice_groups query) front) (flat_map (slice_groups query) back) (flat_map (slice_groups query) slices) mine theirs new rising (reported_both query slices front back n f s) w is
    (if_some (IsTally query texts (flat_map (slice_groups query) front)) left mine l a)
    (if_some (IsTally query texts (flat_map (slice_groups query) back)) right theirs r b)
