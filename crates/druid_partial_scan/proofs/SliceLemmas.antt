-- Rows of several segments in one array of groups.
use Rattle.std.proofs.Common.{◌≡◌, ◌∙◌, ℕ, zero, suc, ◌+◌, ◌*◌, ◌<◌, ℤ, List, [], ◌∷◌, ◌++◌, length, map, set, replicate, take, get_or, true, false, Option, Some, None, refl, sym, ap, subst, arith, ⊎_elim, append_assoc}
use Rattle.std.specs.Prelude.{All, slice_get, slice_index_or, option_map, unwrap_or}
use Rattle.std.specs.Ordering.{nat_cmp, ordering_then, match_ordering}
use Rattle.std.specs.declared.cmp.Ordering.TheVariants.{Less, Equal, Greater}
use Rattle.std.specs.Cmp.Lexicographic.{slice_cmp}
use Rattle.std.specs.List.{flat_map}
use Rattle.std.proofs.lemmas.List.{append-nil, take_more, get_or-map, length-map, map-set}
use Rattle.std.proofs.lemmas.List.Concat.{flat_map-append}
use Rattle.druid_time.specs.Extent.{Extent}
use Rattle.druid_partial_scan.specs.Rows.{is_asked, counted_by}
use Rattle.std.proofs.lemmas.List.Elements.{All-nil, All-head, All-tail}
use Rattle.std.proofs.lemmas.Option.{slice_get-get_or}
use Rattle.druid_base.proofs.OrderLemmas.{ordering_then-assoc, nat_cmp-lt, nat_cmp-gt}
use Rattle.druid_base.proofs.ListLemmas.{slice_get-set}
use Rattle.druid_time.specs.Granularity.{bucket_at as time_bucket}
use Rattle.druid_time.specs.declared.granularity.Granularity.TheVariants as granularity
use Rattle.druid_segment_rows.specs.Segment.{Segment, row_at}
use Rattle.druid_segment_rows.specs.Columns.{value_at}
use Rattle.druid_query.specs.Query.{Query}
use Rattle.druid_query.specs.declared.aggregator.AggregatorKind.{AggregatorKind}
use Rattle.druid_partial.specs.Groups.{Group, Key, AreWords, value_cmp, key_cmp}
use Rattle.druid_partial.specs.Joined.{join_numbers, join_groups, put, merged}
use Rattle.druid_partial.specs.Partials.{earliest, kinds_of, HasNumbers, IsGroupFor}
use Rattle.druid_partial_scan.specs.Places.{at_place, places_of}
use Rattle.druid_partial_scan.specs.Cells.{Column, code_at, cell_from, room_from, IsColumn, AreColumns, Filled, Cells, join_into, filled_with}
use Rattle.druid_partial_scan.specs.Scans.{Scan, counted_at, cell_at, counted_upto, AreCounted, HasRoom}
use Rattle.druid_partial_scan.specs.Slices.{Texts, IsRising, IsCoded, AreCoded, room_over, IsOver, Fits, values_of, number_of, IsHeld, AreHeld, present, with_group, group_of, groups_held, Adds, IsTally}
use Rattle.druid_partial.proofs.GroupLemmas.{key_same}
use Rattle.druid_partial.proofs.MergedLemmas.{joined_length}
use Rattle.druid_partial.proofs.JoinLemmas.{joined_words}
use Rattle.druid_partial.proofs.OrderLemmas.{no_rows}
use Rattle.druid_partial_scan.proofs.PlaceLemmas.{values_counted}
use Rattle.druid_partial_scan.proofs.RadixLemmas.{equal_is, radix, then_nothing}
use Rattle.druid_partial_scan.proofs.RankLemmas.{next_rank, value_rank}
use Rattle.druid_partial_scan.proofs.IntoLemmas.{into_is}
use Rattle.druid_partial_scan.proofs.ReportLemmas.{counted_and, row_for, row_numbers, upto_more}

-- ---- numbers are in the order of the values

numbers_order : (texts : Texts) (xs ys : List ℕ) (m n : ℕ) → All IsRising texts → Fits texts xs → Fits texts ys → nat_cmp (number_of texts xs m) (number_of texts ys n) ≡ ordering_then (nat_cmp m n) (slice_cmp value_cmp (values_of texts xs) (values_of texts ys))
numbers_order [] xs ys m n r p q = then_nothing (nat_cmp m n)
numbers_order (t ∷ ts) [] ys m n r p q = absurd p
numbers_order (t ∷ ts) (x ∷ xs) [] m n r p q = absurd q
numbers_order (t ∷ ts) (x ∷ xs) (y ∷ ys) m n r p q =
    let s = length t + 1 in
    let rest = slice_cmp value_cmp (values_of ts xs) (values_of ts ys) in
    let a = p.0 in let b = q.0 in
    numbers_order ts xs ys (m * s + x) (n * s + y) (All-tail IsRising t ts r) p.1 q.1
    ∙ ap (λ o. ordering_then o rest) (radix m n s x y (omega (arith, a)) (omega (arith, b)))
    ∙ ordering_then-assoc (nat_cmp m n) (nat_cmp x y) rest
    ∙ ap (λ o. ordering_then (nat_cmp m n) (ordering_then o rest)) (sym (value_rank t x y (All-head IsRising t ts r) a b))

pub held_order : (query : Query) (texts : Texts) (i j : ℕ) (g h : Group) → All IsRising texts → IsHeld query texts i g → IsHeld query texts j h → key_cmp g.key h.key ≡ nat_cmp i j
held_order query texts i j g h rising a b =
    ap (λ o. ordering_then o (slice_cmp value_cmp g.key.values h.key.values)) (equal_is g.key.bucket h.key.bucket (a.bucket_is ∙ sym b.bucket_is))
    ∙ ap (λ l. slice_cmp value_cmp l h.key.values) a.values_are
    ∙ ap (slice_cmp value_cmp (values_of texts a.codes)) b.values_are
    ∙ sym (numbers_order texts a.codes b.codes 0 0 rising a.fits b.fits)
    ∙ ap (λ n. nat_cmp n (number_of texts b.codes 0)) a.place_is ∙ ap (nat_cmp i) b.place_is

-- ---- a group in its cell

put_first : (kinds : List AggregatorKind) (g : Group) (cells : List (Option Group)) → ((i : ℕ) (h : Group) → slice_get cells i ≡ Some (Some h) → key_cmp g.key h.key ≡ Less) → put kinds g (merged kinds []) (present cells) ≡ g ∷ present cells
put_first kinds g [] each = refl
put_first kinds g (None ∷ cells) each = put_first kinds g cells (λ i h e. each (suc i) h e)
put_first kinds g (Some d ∷ cells) each =
    ap (λ o. match_ordering o (g ∷ d ∷ present cells) (join_groups kinds g d ∷ present cells) (d ∷ put kinds g (merged kinds []) (present cells))) (each 0 d refl)

put_held : (kinds : List AggregatorKind) (g : Group) (cells : List (Option Group)) (j : ℕ) → j < length cells → ((i : ℕ) (h : Group) → slice_get cells i ≡ Some (Some h) → key_cmp g.key h.key ≡ nat_cmp j i) → ((i : ℕ) (h : Group) → slice_get cells i ≡ Some (Some h) → length h.numbers ≡ length kinds) → length g.numbers ≡ length kinds → present (set cells j (Some (with_group kinds g (slice_index_or cells j None)))) ≡ put kinds g (merged kinds []) (present cells)
put_held kinds g [] j h each wide mine = absurd (omega arith)
put_held kinds g (None ∷ cells) zero h each wide mine =
    sym (put_first kinds g cells (λ i d e. each (suc i) d e ∙ nat_cmp-lt zero (suc i) (omega arith)))
put_held kinds g (Some d ∷ cells) zero h each wide mine =
    let tied : key_cmp g.key d.key ≡ Equal = each 0 d refl ∙ equal_is 0 0 refl in
    let keys : d.key ≡ g.key = sym (key_same g.key d.key tied) in
    let numbers : join_into kinds g.numbers d.numbers ≡ join_numbers kinds g.numbers d.numbers = into_is kinds g.numbers d.numbers mine (wide 0 d refl) in
    let head : with_group kinds g (Some d) ≡ join_groups kinds g d = (λ i. record { key = keys i; numbers = numbers i }) in
    ap (λ x. x ∷ present cells) head
    ∙ sym (ap (λ o. match_ordering o (g ∷ d ∷ present cells) (join_groups kinds g d ∷ present cells) (d ∷ put kinds g (merged kinds []) (present cells))) tied)
put_held kinds g (None ∷ cells) (suc j) h each wide mine =
    put_held kinds g cells j (omega (arith, h)) (λ i d e. each (suc i) d e ∙ sym (next_rank j i)) (λ i d e. wide (suc i) d e) mine
put_held kinds g (Some d ∷ cells) (suc j) h each wide mine =
    let later = put_held kinds g cells j (omega (arith, h)) (λ i c e. each (suc i) c e ∙ sym (next_rank j i)) (λ i c e. wide (suc i) c e) mine in
    let after : key_cmp g.key d.key ≡ Greater = each 0 d refl ∙ nat_cmp-gt (suc j) 0 (omega arith) in
    ap (λ l. d ∷ l) later
    ∙ sym (ap (λ o. match_ordering o (g ∷ d ∷ present cells) (join_groups kinds g d ∷ present cells) (d ∷ put kinds g (merged kinds []) (present cells))) after)

with_held : (query : Query) (texts : Texts) (place : ℕ) (g : Group) (old : Option Group) → IsHeld query texts place g → ((d : Group) → old ≡ Some d → IsHeld query texts place d) → IsHeld query texts place (with_group (kinds_of query) g old)
with_held query texts place g None n f = n
with_held query texts place g (Some d) n f =
    let k = f d refl in
    let kinds = kinds_of query in
    let same : join_into kinds g.numbers d.numbers ≡ join_numbers kinds g.numbers d.numbers = into_is kinds g.numbers d.numbers n.numbers.one_each k.numbers.one_each in
    let P : List (Option ℤ) → Type 0 = λ l. length l ≡ length kinds in
    let Q : List (Option ℤ) → Type 0 = AreWords in
    record {
      bucket_is = k.bucket_is;
      codes = k.codes;
      fits = k.fits;
      values_are = k.values_are;
      place_is = k.place_is;
      numbers = record {
        one_each = subst P (sym same) (joined_length kinds g.numbers d.numbers n.numbers.one_each k.numbers.one_each);
        words = subst Q (sym same) (joined_words kinds g.numbers d.numbers n.numbers.words k.numbers.words);
      };
    }

cells_held : (query : Query) (texts : Texts) (j : ℕ) (g : Group) (cells : List (Option Group)) → j < length cells → IsHeld query texts j g → AreHeld query texts cells → AreHeld query texts (set cells j (Some (with_group (kinds_of query) g (slice_index_or cells j None))))
cells_held query texts j g cells k held are place c e =
    ⊎_elim (λ old. are place c old) (λ r. written r.0 r.1)
    (slice_get-set cells j (Some (with_group (kinds_of query) g (slice_index_or cells j None))) place (Some c) e)
  where
    written : place ≡ j → Some (with_group (kinds_of query) g (slice_index_or cells j None)) ≡ Some c → IsHeld query texts place c
    written p v =
        let same : with_group (kinds_of query) g (slice_index_or cells j None) ≡ c = cc in
        let P : Group → Type 0 = IsHeld query texts place in
        let Q : ℕ → Type 0 = λ i. slice_get cells i ≡ Some (slice_index_or cells j None) in
        let H : ℕ → Type 0 = λ i. IsHeld query texts i g in
        subst P same (with_held query texts place g (slice_index_or cells j None) (subst H (sym p) held)
        (λ d f. are place d (subst Q (sym p) (slice_get-get_or cells j None k) ∙ ap (λ o. Some o) f)))

pub put_adds : (query : Query) (texts : Texts) (g : Group) (j : ℕ) (old new : List (Option Group)) → All IsRising texts → IsHeld query texts j g → IsGroupFor query g → j < length old → new ≡ set old j (Some (with_group (kinds_of query) g (slice_index_or old j None))) → Adds query texts (g ∷ []) old new
put_adds query texts g j old new rising held for' inside is =
    let kinds = kinds_of query in
    let P : List (Option Group) → Type 0 = Adds query texts (g ∷ []) old in
    let whole : List (Option Group) = set old j (Some (with_group kinds g (slice_index_or old j None))) in
    subst P (sym is) (record {
      held = λ are. cells_held query texts j g old inside held are;
      counted = λ are rows counted.
          counted_and query rows (present old) (present whole) g counted held.numbers for'
          (put_held kinds g old j inside (λ i h e. held_order query texts j i g h rising held (are i h e)) (λ i h e. (are i h e).numbers.one_each) held.numbers.one_each);
    })

-- ---- more and more rows

pub adds_none : (query : Query) (texts : Texts) (none : List Group) (old : List (Option Group)) → none ≡ [] → Adds query texts none old old
adds_none query texts none old e = record {
  held = λ are. are;
  counted = λ are rows counted. let P : List Group → Type 0 = λ l. AreCounted query l (present old) in subst P (sym (ap (λ l. rows ++ l) e ∙ append-nil rows)) counted;
}

pub adds_then : (query : Query) (texts : Texts) (a b both : List Group) (old mid new : List (Option Group)) → both ≡ a ++ b → Adds query texts a old mid → Adds query texts b mid new → Adds query texts both old new
adds_then query texts a b both old mid new e f s = record {
  held = λ are. s.held (f.held are);
  counted = λ are rows counted. let P : List Group → Type 0 = λ l. AreCounted query l (present new) in
      subst P (append_assoc rows a b ∙ ap (λ l. rows ++ l) (sym e)) (s.counted (f.held are) (rows ++ a) (f.counted are rows counted));
}

-- one row more
pub upto_adds : (texts : Texts) (scan : Scan) (interval : Extent) (row : ℕ) (old mid new : List (Option Group)) → row < length scan.segment.rows → is_asked scan.query interval scan.segment.fields (row_at scan.segment row) ≡ true → Adds scan.query texts (counted_upto scan.query scan.segment interval row) old mid → Adds scan.query texts (counted_at scan row ∷ []) mid new → Adds scan.query texts (counted_upto scan.query scan.segment interval (row + 1)) old new
upto_adds texts scan interval row old mid new h asked f s =
    adds_then scan.query texts (counted_upto scan.query scan.segment interval row) (counted_at scan row ∷ []) (counted_upto scan.query scan.segment interval (row + 1)) old mid new
    (upto_more scan.query scan.segment interval row true h asked) f s

pub upto_skips : (texts : Texts) (scan : Scan) (interval : Extent) (row : ℕ) (old mid : List (Option Group)) → row < length scan.segment.rows → is_asked scan.query interval scan.segment.fields (row_at scan.segment row) ≡ false → Adds scan.query texts (counted_upto scan.query scan.segment interval row) old mid → Adds scan.query texts (counted_upto scan.query scan.segment interval (row + 1)) old mid
upto_skips texts scan interval row old mid h asked f =
    let P : List Group → Type 0 = λ l. Adds scan.query texts l old mid in
    subst P (sym (upto_more scan.query scan.segment interval row false h asked ∙ append-nil _)) f

-- one part more
pub part_adds : {X : Type 0} (query : Query) (texts : Texts) (row_group : X → List Group) (xs : List X) (i : ℕ) (x : X) (old mid new : List (Option Group)) → i < length xs → x ≡ get_or xs i x → Adds query texts (flat_map row_group (take i xs)) old mid → Adds query texts (row_group x) mid new → Adds query texts (flat_map row_group (take (i + 1) xs)) old new
part_adds query texts row_group xs i x old mid new h is f s =
    adds_then query texts (flat_map row_group (take i xs)) (row_group x) (flat_map row_group (take (i + 1) xs)) old mid new
    (ap (flat_map row_group) (take_more xs i x h ∙ ap (λ y. take i xs ++ y ∷ []) (sym is)) ∙ flat_map-append row_group (take i xs) (x ∷ [])
    ∙ ap (λ l. flat_map row_group (take i xs) ++ l) (append-nil (row_group x))) f s

-- ---- rows of a scan

abbrev codes_at : ℕ → List Column → List ℕ
codes_at row [] = []
codes_at row (c ∷ cs) = code_at c row ∷ codes_at row cs

coded_fits : (segment : Segment) (texts : Texts) (places : List (Option ℕ)) (columns : List Column) (row : ℕ) → AreCoded segment texts places columns → row < length segment.rows → Fits texts (codes_at row columns)
coded_fits segment [] [] [] row are h = tt
coded_fits segment [] [] (c ∷ cs) row are h = absurd are
coded_fits segment [] (p ∷ ps) cs row are h = absurd are
coded_fits segment (t ∷ ts) [] cs row are h = absurd are
coded_fits segment (t ∷ ts) (p ∷ ps) [] row are h = absurd are
coded_fits segment (t ∷ ts) (p ∷ ps) (c ∷ cs) row are h =
    let below = (are.0.has row h).below in let wide = are.0.wide in
    (omega (arith, below, wide), coded_fits segment ts ps cs row are.1 h)

coded_values : (segment : Segment) (texts : Texts) (places : List (Option ℕ)) (columns : List Column) (row : ℕ) → AreCoded segment texts places columns → row < length segment.rows → map (at_place (row_at segment row).dimensions) places ≡ values_of texts (codes_at row columns)
coded_values segment [] [] [] row are h = refl
coded_values segment [] [] (c ∷ cs) row are h = absurd are
coded_values segment [] (p ∷ ps) cs row are h = absurd are
coded_values segment (t ∷ ts) [] cs row are h = absurd are
coded_values segment (t ∷ ts) (p ∷ ps) [] row are h = absurd are
coded_values segment (t ∷ ts) (p ∷ ps) (c ∷ cs) row are h =
    ap (λ v. v ∷ map (at_place (row_at segment row).dimensions) ps) (sym (are.0.value row h))
    ∙ ap (λ l. value_at t (code_at c row) ∷ l) (coded_values segment ts ps cs row are.1 h)

coded_number : (segment : Segment) (texts : Texts) (places : List (Option ℕ)) (columns : List Column) (row n : ℕ) → AreCoded segment texts places columns → number_of texts (codes_at row columns) n ≡ cell_from columns row n
coded_number segment [] [] [] row n are = refl
coded_number segment [] [] (c ∷ cs) row n are = absurd are
coded_number segment [] (p ∷ ps) cs row n are = absurd are
coded_number segment (t ∷ ts) [] cs row n are = absurd are
coded_number segment (t ∷ ts) (p ∷ ps) [] row n are = absurd are
coded_number segment (t ∷ ts) (p ∷ ps) (c ∷ cs) row n are =
    ap (λ s. number_of ts (codes_at row cs) (n * s + code_at c row)) (sym are.0.wide)
    ∙ coded_number segment ts ps cs row (n * c.size + code_at c row) are.1

pub room_coded : (segment : Segment) (texts : Texts) (places : List (Option ℕ)) (columns : List Column) (n : ℕ) → AreCoded segment texts places columns → room_over texts n ≡ room_from columns n
room_coded segment [] [] [] n are = refl
room_coded segment [] [] (c ∷ cs) n are = absurd are
room_coded segment [] (p ∷ ps) cs n are = absurd are
room_coded segment (t ∷ ts) [] cs n are = absurd are
room_coded segment (t ∷ ts) (p ∷ ps) [] n are = absurd are
room_coded segment (t ∷ ts) (p ∷ ps) (c ∷ cs) n are =
    ap (λ s. room_over ts (n * s)) (sym are.0.wide) ∙ room_coded segment ts ps cs (n * c.size) are.1

-- these columns are in the order of the values
column_of : (segment : Segment) (t : List (List ℕ)) (p : Option ℕ) (c : Column) → IsRising t → IsCoded segment t p c → IsColumn segment p c
column_of segment t p c rising is = record {
  has = is.has;
  order = λ a b h k.
      let low = (is.has a h).below in let high = (is.has b k).below in let wide = is.wide in
      ap (λ v. value_cmp v (at_place (row_at segment b).dimensions p)) (sym (is.value a h))
      ∙ ap (value_cmp (value_at t (code_at c a))) (sym (is.value b k))
      ∙ value_rank t (code_at c a) (code_at c b) rising (omega (arith, low, wide)) (omega (arith, high, wide));
}

pub columns_coded : (segment : Segment) (texts : Texts) (places : List (Option ℕ)) (columns : List Column) → All IsRising texts → AreCoded segment texts places columns → AreColumns segment places columns
columns_coded segment [] [] [] rising are = tt
columns_coded segment [] [] (c ∷ cs) rising are = absurd are
columns_coded segment [] (p ∷ ps) cs rising are = absurd are
columns_coded segment (t ∷ ts) [] cs rising are = absurd are
columns_coded segment (t ∷ ts) (p ∷ ps) [] rising are = absurd are
columns_coded segment (t ∷ ts) (p ∷ ps) (c ∷ cs) rising are =
    (column_of segment t p c (All-head IsRising t ts rising) are.0, columns_coded segment ts ps cs (All-tail IsRising t ts rising) are.1)

row_held : (texts : Texts) (scan : Scan) (row : ℕ) → IsOver texts scan → row < length scan.segment.rows → AreWords (counted_at scan row).numbers → IsHeld scan.query texts (cell_at scan row) (counted_at scan row)
row_held texts scan row over h words =
    let places = places_of scan.query scan.segment.fields in
    record {
      bucket_is = ap (λ g. unwrap_or (time_bucket g (row_at scan.segment row).time) (earliest scan.query.intervals)) over.one;
      codes = codes_at row scan.columns;
      fits = coded_fits scan.segment texts places scan.columns row over.coded h;
      values_are = sym (values_counted scan.query scan.segment.fields (row_at scan.segment row)) ∙ coded_values scan.segment texts places scan.columns row over.coded h;
      place_is = coded_number scan.segment texts places scan.columns row 0 over.coded;
      numbers = row_numbers scan.query scan.segment.fields (row_at scan.segment row) words;
    }

-- a row in its cell
pub row_adds : (texts : Texts) (scan : Scan) (row : ℕ) (old new : List (Option Group)) → IsOver texts scan → row < length scan.segment.rows → AreWords (counted_at scan row).numbers → cell_at scan row < length old → new ≡ set old (cell_at scan row) (Some (with_group (kinds_of scan.query) (counted_at scan row) (slice_index_or old (cell_at scan row) None))) → Adds scan.query texts (counted_at scan row ∷ []) old new
row_adds texts scan row old new over h words inside is =
    put_adds scan.query texts (counted_at scan row) (cell_at scan row) old new over.rising (row_held texts scan row over h words)
    (row_for scan.query scan.segment.fields (row_at scan.segment row)) inside is

-- ---- no groups

pub none_present : (n : ℕ) → present (replicate n None) ≡ []
none_present zero = refl
none_present (suc n) = none_present n

pub none_held : (query : Query) (texts : Texts) (n : ℕ) → AreHeld query texts (replicate n None)
none_held query texts n place c e = absurd (none n place c e)
  where
    none : (n place : ℕ) (c : Group) → slice_get (replicate n None) place ≡ Some (Some c) → ⊥
    none zero place c e = absurd (cc)
    none (suc n) zero c e = absurd (cc)
    none (suc n) (suc place) c e = none n place c e

-- all rows that were added to no groups
pub added_all : (query : Query) (texts : Texts) (more : List Group) (n : ℕ) (old : List (Option Group)) (new : Cells Key) → old ≡ replicate n None → HasRoom query (room_over texts 1) new → Adds query texts more old (groups_held new.groups) → IsTally query texts more new
added_all query texts more n old new e room adds =
    let H : List (Option Group) → Type 0 = AreHeld query texts in
    let C : List Group → Type 0 = AreCounted query [] in
    let none = subst H (sym e) (none_held query texts n) in
    record {
      room = room;
      held = adds.held none;
      counted = adds.counted none []
          (subst C (sym (ap present e ∙ none_present n)) (record {
            result = no_rows (kinds_of query) [] refl;
            numbers = All-nil (HasNumbers (kinds_of query));
            each = All-nil (IsGroupFor query);
          }));
    }

-- ---- a row in its cell, as it is put there

groups_filled : (old new : List (Option (Filled Key))) (i : ℕ) (kinds : List AggregatorKind) (key : Key) (xs : List (Option ℤ)) → i < length old → new ≡ set old i (Some (filled_with kinds key xs (get_or old i None))) → groups_held new ≡ set (groups_held old) i (Some (with_group kinds (record { key = key; numbers = xs }) (get_or (groups_held old) i None)))
groups_filled old new i kinds key xs h e =
    ap groups_held e ∙ map-set (option_map group_of) old i (Some (filled_with kinds key xs (get_or old i None)))
    ∙ ap (λ g. set (groups_held old) i (Some g)) (same (get_or old i None) ∙ ap (with_group kinds (record { key = key; numbers = xs })) (sym (get_or-map (option_map group_of) old i None None h)))
  where
    same : (o : Option (Filled Key)) → group_of (filled_with kinds key xs o) ≡ with_group kinds (record { key = key; numbers = xs }) (option_map group_of o)
    same None = refl
    same (Some g) = refl

pub filled_adds : (texts : Texts) (scan : Scan) (row cell : ℕ) (old new : List (Option (Filled Key))) → IsOver texts scan → row < length scan.segment.rows → AreWords (counted_at scan row).numbers → cell ≡ cell_at scan row → cell < length old → new ≡ set old cell (Some (filled_with (kinds_of scan.query) (counted_at scan row).key (counted_at scan row).numbers (get_or old cell None))) → Adds scan.query texts (counted_at scan row ∷ []) (groups_held old) (groups_held new)
filled_adds texts scan row cell old new over h words at inside e =
    let own = kinds_of scan.query in
    let held = groups_held old in
    let long = length-map old (option_map group_of) in
    row_adds texts scan row held (groups_held new) over h words (omega (arith, at, inside, long))
    (groups_filled old new cell own (counted_at scan row).key (counted_at scan row).numbers inside e
    ∙ ap (λ i. set held i (Some (with_group own (counted_at scan row) (get_or held i None)))) at)

-- ---- slices of segments

-- the same room, of a query and a number of codes that are the same
pub room_at : (query other : Query) (room more : ℕ) (cells : Cells Key) → query ≡ other → room ≡ more → HasRoom query room cells → HasRoom other more cells
room_at query other room more cells q r has = record { width = has.width ∙ ap (λ (p : Query). length p.aggregations) q; long = has.long ∙ r }

pub slice_adds : (query : Query) (segment : Segment) (scan : Scan) (texts : Texts) (pieces items : List Extent) (old new : List (Option Group)) → scan.query ≡ query → scan.segment ≡ segment → pieces ≡ items → All IsRising texts → AreCoded segment texts (places_of query segment.fields) scan.columns → query.granularity ≡ granularity.All → ((ts : Texts) → IsOver ts scan → Adds scan.query ts (flat_map (counted_by scan.query scan.segment) pieces) old new) → Adds query texts (flat_map (counted_by query segment) items) old new
slice_adds query segment scan texts pieces items old new q s p rising coded one adds =
    let C : Query → Type 0 = λ r. AreCoded segment texts (places_of r segment.fields) scan.columns in
    let D : Segment → Type 0 = λ r. AreCoded r texts (places_of scan.query r.fields) scan.columns in
    let over : IsOver texts scan = record {
      rising = rising;
      coded = subst D (sym s) (subst C (sym q) coded);
      one = ap (λ (r : Query). r.granularity) q ∙ one;
    } in
    let P : List Extent → Type 0 = λ l. Adds scan.query texts (flat_map (counted_by scan.query scan.segment) l) old new in
    let S : Segment → Type 0 = λ r. Adds scan.query texts (flat_map (counted_by scan.query r) items) old new in
    let Q : Query → Type 0 = λ r. Adds r texts (flat_map (counted_by r segment) items) old new in
    subst Q q (subst S s (subst P p (adds texts over)))

-- ---- groups handed out

abbrev HaveWords : List Group → Type 0
HaveWords groups = All (λ (g : Group). AreWords g.numbers) groups

pub open_pushed : (before pushed whole : List Group) (closed g : Group) (o : Option Group) (left rest : List (Option Group)) → left ≡ o ∷ rest → o ≡ Some g → closed ≡ g → pushed ≡ before ++ closed ∷ [] → before ++ present left ≡ whole → pushed ++ present rest ≡ whole
open_pushed before pushed whole closed g o left rest l s c p e =
    ap (λ gs. gs ++ present rest) p ∙ append_assoc before (closed ∷ []) (present rest)
    ∙ ap (λ x. before ++ x ∷ present rest) c
    ∙ ap (λ x. before ++ present (x ∷ rest)) (sym s) ∙ ap (λ x. before ++ present x) (sym l) ∙ e

pub open_skipped : (before whole : List Group) (o : Option Group) (left rest : List (Option Group)) → left ≡ o ∷ rest → o ≡ None → before ++ present left ≡ whole → before ++ present rest ≡ whole
open_skipped before whole o left rest l n e =
    ap (λ x. before ++ present (x ∷ rest)) (sym n) ∙ ap (λ x. before ++ present x) (sym l) ∙ e

pub words_here : (o : Option Group) (left rest : List (Option Group)) (g : Group) → left ≡ o ∷ rest → o ≡ Some g → HaveWords (present left) → AreWords g.numbers
words_here o left rest g l s w =
    let P : List (Option Group) → Type 0 = λ cells. HaveWords (present cells) in
    let Q : Option Group → Type 0 = λ x. HaveWords (present (x ∷ rest)) in
    All-head (λ (h : Group). AreWords h.numbers) g (present rest) (subst Q s (subst P l w))

pub words_left : (o : Option Group) (left rest : List (Option Group)) → left ≡ o ∷ rest → HaveWords (present left) → HaveWords (present rest)
words_left o left rest l w = let P : List (Option Group) → Type 0 = λ cells. HaveWords (present cells) in by_case o (subst P l w)
  where
    by_case : (x : Option Group) → HaveWords (present (x ∷ rest)) → HaveWords (present rest)
    by_case None v = v
    by_case (Some g) v = All-tail (λ (h : Group). AreWords h.numbers) g (present rest) v
