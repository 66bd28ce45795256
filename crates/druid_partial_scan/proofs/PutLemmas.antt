-- A row joined to the group of its cell is its group merged.
use Rattle.std.proofs.Common.{◌≡◌, ◌∙◌, ℕ, zero, suc, ◌+◌, ◌<◌, ℤ, List, [], ◌∷◌, ◌++◌, length, map, set, replicate, Option, Some, None, refl, sym, ap, subst, arith, ⊎_elim, ◌≤◌, true, false}
use Rattle.std.proofs.lemmas.List.{append-nil, length-map}
use Rattle.std.proofs.lemmas.List.Elements.{All-nil, All-cons, All-head, All-tail, All-contains, Contains-append_right}
use Rattle.std.proofs.Common.{append_assoc}
use Rattle.std.specs.Prelude.{All, Contains, slice_get, slice_index_or, option_map}
use Rattle.std.specs.Ordering.{nat_cmp, ordering_then, ordering_reverse, match_ordering}
use Rattle.std.specs.declared.cmp.Ordering.TheVariants.{Less, Equal, Greater}
use Rattle.std.specs.Cmp.Lexicographic.{slice_cmp}
use Rattle.std.proofs.lemmas.List.{length-set}
use Rattle.std.proofs.lemmas.Option.{slice_get-get_or}
use Rattle.druid_base.proofs.OrderLemmas.{nat_cmp-lt, nat_cmp-gt}
use Rattle.druid_base.proofs.ListLemmas.{Contains-here, slice_get-set}
use Rattle.druid_time.specs.Extent.{Extent}
use Rattle.druid_base.proofs.MemberLemmas.{Contains-later}
use Rattle.druid_segment_rows.specs.Segment.{row_at}
use Rattle.druid_query.specs.declared.aggregator.AggregatorKind.{AggregatorKind}
use Rattle.druid_partial.specs.Groups.{Group, AreWords, value_cmp, key_cmp}
use Rattle.druid_partial.specs.Joined.{join_numbers, join_groups, put, merged}
use Rattle.druid_partial.specs.Partials.{kinds_of, HasNumbers}
use Rattle.druid_partial_scan.specs.Rows.{is_asked}
use Rattle.druid_partial_scan.specs.Places.{at_place, places_of}
use Rattle.druid_partial_scan.specs.Cells.{Cell, Cells, Filled, AreColumns, join_into, with_row, filled_with, cell_of, cells_in}
use Rattle.druid_query.specs.Query.{Query}
use Rattle.druid_partial_scan.specs.Scans.{Scan, counted_at, bucket_at, cell_at, group_at, groups_in, IsCell, AreCells, AreUpto, ComeBefore, IsJoined, IsKept, HasRoom}
use Rattle.druid_partial_scan.proofs.FlatLemmas.{cells_filled}
use Rattle.druid_partial.specs.Orders.{key_cmp-total}
use Rattle.druid_partial.proofs.GroupLemmas.{key_same}
use Rattle.druid_partial.proofs.MergedLemmas.{joined_length}
use Rattle.druid_partial.proofs.JoinLemmas.{joined_words}
use Rattle.druid_partial_scan.proofs.PlaceLemmas.{values_counted}
use Rattle.druid_partial_scan.proofs.RadixLemmas.{equal_is, cells_order}
use Rattle.druid_partial_scan.proofs.RankLemmas.{next_rank}
use Rattle.druid_partial_scan.proofs.IntoLemmas.{into_is}
use Rattle.druid_partial_scan.proofs.ReportLemmas.{counted_asked, counted_passed, row_numbers}

abbrev pub HasColumns : Scan → Type 0
HasColumns scan = AreColumns scan.segment (places_of scan.query scan.segment.fields) scan.columns

-- keys of one bucket are in the order of their cells
pub keys_order : (scan : Scan) (a b : ℕ) → HasColumns scan → a < length scan.segment.rows → b < length scan.segment.rows → bucket_at scan a ≡ bucket_at scan b → key_cmp (counted_at scan a).key (counted_at scan b).key ≡ nat_cmp (cell_at scan a) (cell_at scan b)
keys_order scan a b columns p q same =
    let mine = (counted_at scan a).key.values in
    let theirs = (counted_at scan b).key.values in
    let places = places_of scan.query scan.segment.fields in
    ap (λ o. ordering_then o (slice_cmp value_cmp mine theirs)) (equal_is (bucket_at scan a) (bucket_at scan b) same)
    ∙ ap (λ l. slice_cmp value_cmp l theirs) (sym (values_counted scan.query scan.segment.fields (row_at scan.segment a)))
    ∙ ap (slice_cmp value_cmp (map (at_place (row_at scan.segment a).dimensions) places)) (sym (values_counted scan.query scan.segment.fields (row_at scan.segment b)))
    ∙ sym (cells_order scan.segment places scan.columns a b 0 0 columns p q)

-- a group before all others
put_first : (kinds : List AggregatorKind) (scan : Scan) (g : Group) (cells : List (Option Cell)) → ((i : ℕ) (c : Cell) → slice_get cells i ≡ Some (Some c) → key_cmp g.key (group_at scan c).key ≡ Less) → put kinds g (merged kinds []) (groups_in scan cells) ≡ g ∷ groups_in scan cells
put_first kinds scan g [] each = refl
put_first kinds scan g (None ∷ cells) each = put_first kinds scan g cells (λ i c e. each (suc i) c e)
put_first kinds scan g (Some c ∷ cells) each =
    ap (λ o. match_ordering o (g ∷ group_at scan c ∷ groups_in scan cells) (join_groups kinds g (group_at scan c) ∷ groups_in scan cells) (group_at scan c ∷ put kinds g (merged kinds []) (groups_in scan cells))) (each 0 c refl)

-- a group in its cell
put_cell : (kinds : List AggregatorKind) (scan : Scan) (row : ℕ) (cells : List (Option Cell)) (j : ℕ) → j < length cells → ((i : ℕ) (c : Cell) → slice_get cells i ≡ Some (Some c) → key_cmp (counted_at scan row).key (group_at scan c).key ≡ nat_cmp j i) → ((i : ℕ) (c : Cell) → slice_get cells i ≡ Some (Some c) → length c.numbers ≡ length kinds) → length (counted_at scan row).numbers ≡ length kinds → groups_in scan (set cells j (Some (with_row kinds row (counted_at scan row).numbers (slice_index_or cells j None)))) ≡ put kinds (counted_at scan row) (merged kinds []) (groups_in scan cells)
put_cell kinds scan row [] j h each wide mine = absurd (omega arith)
put_cell kinds scan row (None ∷ cells) zero h each wide mine =
    sym (put_first kinds scan (counted_at scan row) cells (λ i c e. each (suc i) c e ∙ nat_cmp-lt zero (suc i) (omega arith)))
put_cell kinds scan row (Some d ∷ cells) zero h each wide mine =
    let g = counted_at scan row in
    let tied : key_cmp g.key (group_at scan d).key ≡ Equal = each 0 d refl ∙ equal_is 0 0 refl in
    let keys : (counted_at scan d.row).key ≡ g.key = sym (key_same g.key (group_at scan d).key tied) in
    let numbers : join_into kinds g.numbers d.numbers ≡ join_numbers kinds g.numbers d.numbers = into_is kinds g.numbers d.numbers mine (wide 0 d refl) in
    let head : group_at scan (with_row kinds row g.numbers (Some d)) ≡ join_groups kinds g (group_at scan d) = (λ i. record { key = keys i; numbers = numbers i }) in
    ap (λ x. x ∷ groups_in scan cells) head
    ∙ sym (ap (λ o. match_ordering o (g ∷ group_at scan d ∷ groups_in scan cells) (join_groups kinds g (group_at scan d) ∷ groups_in scan cells) (group_at scan d ∷ put kinds g (merged kinds []) (groups_in scan cells))) tied)
put_cell kinds scan row (None ∷ cells) (suc j) h each wide mine =
    put_cell kinds scan row cells j (omega (arith, h)) (λ i c e. each (suc i) c e ∙ sym (next_rank j i)) (λ i c e. wide (suc i) c e) mine
put_cell kinds scan row (Some d ∷ cells) (suc j) h each wide mine =
    let g = counted_at scan row in
    let later = put_cell kinds scan row cells j (omega (arith, h)) (λ i c e. each (suc i) c e ∙ sym (next_rank j i)) (λ i c e. wide (suc i) c e) mine in
    let after : key_cmp g.key (group_at scan d).key ≡ Greater = each 0 d refl ∙ nat_cmp-gt (suc j) 0 (omega arith) in
    ap (λ l. group_at scan d ∷ l) later
    ∙ sym (ap (λ o. match_ordering o (g ∷ group_at scan d ∷ groups_in scan cells) (join_groups kinds g (group_at scan d) ∷ groups_in scan cells) (group_at scan d ∷ put kinds g (merged kinds []) (groups_in scan cells))) after)

pub with_kept : (scan : Scan) (bucket place row : ℕ) (old : Option Cell) → row < length scan.segment.rows → bucket_at scan row ≡ bucket → cell_at scan row ≡ place → HasNumbers (kinds_of scan.query) (counted_at scan row) → ((d : Cell) → old ≡ Some d → IsCell scan bucket place d) → IsCell scan bucket place (with_row (kinds_of scan.query) row (counted_at scan row).numbers old)
with_kept scan bucket place row None h b p n f = record { inside = h; bucket_is = b; place_is = p; numbers = n }
with_kept scan bucket place row (Some d) h b p n f =
    let k = f d refl in
    let kinds = kinds_of scan.query in
    let same : join_into kinds (counted_at scan row).numbers d.numbers ≡ join_numbers kinds (counted_at scan row).numbers d.numbers = into_is kinds (counted_at scan row).numbers d.numbers n.one_each k.numbers.one_each in
    let P : List (Option ℤ) → Type 0 = λ l. length l ≡ length kinds in
    let Q : List (Option ℤ) → Type 0 = AreWords in
    record {
      inside = k.inside;
      bucket_is = k.bucket_is;
      place_is = k.place_is;
      numbers = record {
        one_each = subst P (sym same) (joined_length kinds (counted_at scan row).numbers d.numbers n.one_each k.numbers.one_each);
        words = subst Q (sym same) (joined_words kinds (counted_at scan row).numbers d.numbers n.words k.numbers.words);
      };
    }

cells_kept : (scan : Scan) (bucket row : ℕ) (cells : List (Option Cell)) → row < length scan.segment.rows → cell_at scan row < length cells → bucket_at scan row ≡ bucket → HasNumbers (kinds_of scan.query) (counted_at scan row) → AreCells scan bucket cells → AreCells scan bucket (set cells (cell_at scan row) (Some (with_row (kinds_of scan.query) row (counted_at scan row).numbers (slice_index_or cells (cell_at scan row) None))))
cells_kept scan bucket row cells h k b n are place c e =
    ⊎_elim (λ old. are place c old) (λ r. written r.0 r.1)
    (slice_get-set cells (cell_at scan row) (Some (with_row (kinds_of scan.query) row (counted_at scan row).numbers (slice_index_or cells (cell_at scan row) None))) place (Some c) e)
  where
    written : place ≡ cell_at scan row → Some (with_row (kinds_of scan.query) row (counted_at scan row).numbers (slice_index_or cells (cell_at scan row) None)) ≡ Some c → IsCell scan bucket place c
    written p v =
        let same : with_row (kinds_of scan.query) row (counted_at scan row).numbers (slice_index_or cells (cell_at scan row) None) ≡ c = cc in
        let P : Cell → Type 0 = IsCell scan bucket place in
        let Q : ℕ → Type 0 = λ i. slice_get cells i ≡ Some (slice_index_or cells (cell_at scan row) None) in
        subst P same (with_kept scan bucket place row (slice_index_or cells (cell_at scan row) None) h b (sym p) n
        (λ d f. are place d (subst Q (sym p) (slice_get-get_or cells (cell_at scan row) None k) ∙ ap (λ o. Some o) f)))

-- the row's group is merged
pub cells_joined : (scan : Scan) (row : ℕ) (old new : List (Option Cell)) → HasColumns scan → row < length scan.segment.rows → AreWords (counted_at scan row).numbers → cell_at scan row < length old → new ≡ set old (cell_at scan row) (Some (with_row (kinds_of scan.query) row (counted_at scan row).numbers (slice_index_or old (cell_at scan row) None))) → IsJoined scan row old new
cells_joined scan row old new columns h words inside is =
    let own_cell = cell_at scan row in
    let has = row_numbers scan.query scan.segment.fields (row_at scan.segment row) words in
    let P : List (Option Cell) → Type 0 = IsJoined scan row old in
    subst P (sym is) (record {
      long = length-set old own_cell _;
      groups = λ bucket b are.
          put_cell (kinds_of scan.query) scan row old own_cell inside
          (λ i c e. let cell = are i c e in keys_order scan row c.row columns h cell.inside (b ∙ sym cell.bucket_is) ∙ ap (nat_cmp own_cell) cell.place_is)
          (λ i c e. (are i c e).numbers.one_each) has.one_each;
      cells = λ bucket b are. cells_kept scan bucket row old h inside b has are;
    })

-- the same where the array is one of numbers
pub row_joined : (scan : Scan) (row cell : ℕ) (old new : List (Option (Filled ℕ))) → HasColumns scan → row < length scan.segment.rows → AreWords (counted_at scan row).numbers → cell ≡ cell_at scan row → cell < length old → new ≡ set old cell (Some (filled_with (kinds_of scan.query) row (counted_at scan row).numbers (slice_index_or old cell None))) → IsJoined scan row (cells_in old) (cells_in new)
row_joined scan row cell old new columns h words at inside is =
    let kinds = kinds_of scan.query in
    let xs = (counted_at scan row).numbers in
    let long = length-map old (option_map cell_of) in
    cells_joined scan row (cells_in old) (cells_in new) columns h words (omega (arith, at, inside, long))
    (cells_filled old new cell row kinds xs inside is ∙ ap (λ i. set (cells_in old) i (Some (with_row kinds row xs (slice_index_or (cells_in old) i None)))) at)

-- room stays
pub room_stays : {K : Type 0} (query : Query) (room i : ℕ) (o : Option (Filled K)) (old new : Cells K) → HasRoom query room old → new.width ≡ old.width → new.groups ≡ set old.groups i o → HasRoom query room new
room_stays query room i o old new has w g = record { width = w ∙ has.width; long = ap length g ∙ length-set old.groups i o ∙ has.long }

-- ---- no groups

pub none_in : (scan : Scan) (n : ℕ) → groups_in scan (replicate n None) ≡ []
none_in scan zero = refl
none_in scan (suc n) = none_in scan n

pub no_cells : (scan : Scan) (bucket n : ℕ) → AreCells scan bucket (replicate n None)
no_cells scan bucket zero place c e = absurd (cc)
no_cells scan bucket (suc n) zero c e = absurd (cc)
no_cells scan bucket (suc n) (suc place) c e = let k = no_cells scan bucket n place c e in record { inside = k.inside; bucket_is = k.bucket_is; place_is = absurd (none n place c e); numbers = k.numbers }
  where
    none : (n place : ℕ) (c : Cell) → slice_get (replicate n None) place ≡ Some (Some c) → ⊥
    none zero place c e = absurd (cc)
    none (suc n) zero c e = absurd (cc)
    none (suc n) (suc place) c e = none n place c e

-- ---- groups that come before

put_after : (kinds : List AggregatorKind) (x : Group) (before ys : List Group) → ((g : Group) → Contains before g → key_cmp g.key x.key ≡ Less) → put kinds x (merged kinds []) (before ++ ys) ≡ before ++ put kinds x (merged kinds []) ys
put_after kinds x [] ys all = refl
put_after kinds x (b ∷ bs) ys all =
    let after : key_cmp x.key b.key ≡ Greater = key_cmp-total.antisymm x.key b.key ∙ ap ordering_reverse (all b (Contains-here b bs)) in
    ap (λ o. match_ordering o (x ∷ b ∷ (bs ++ ys)) (join_groups kinds x b ∷ (bs ++ ys)) (b ∷ put kinds x (merged kinds []) (bs ++ ys))) after
    ∙ ap (λ l. b ∷ l) (put_after kinds x bs ys (λ g c. all g (Contains-later b bs g c)))

-- a row that is asked for, after groups that come before it
pub upto_asked : (scan : Scan) (interval : Extent) (from to row : ℕ) (groups now more : List Group) → from ≤ row → row < to → row < length scan.segment.rows → is_asked scan.query interval scan.segment.fields (row_at scan.segment row) ≡ true → AreWords (counted_at scan row).numbers → more ≡ merged (kinds_of scan.query) (counted_at scan row ∷ []) now → ComeBefore scan groups from to → AreUpto scan interval row (groups ++ now) → AreUpto scan interval (row + 1) (groups ++ more)
upto_asked scan interval from to row groups now more after inside h asked words e before upto =
    counted_asked scan.query scan.segment interval row (groups ++ now) (groups ++ more) h asked words
    (ap (λ l. groups ++ l) e ∙ sym (put_after (kinds_of scan.query) (counted_at scan row) groups now (before row after inside))) upto

-- another row
pub upto_passed : (scan : Scan) (interval : Extent) (row : ℕ) (groups : List Group) → row < length scan.segment.rows → is_asked scan.query interval scan.segment.fields (row_at scan.segment row) ≡ false → AreUpto scan interval row groups → AreUpto scan interval (row + 1) groups
upto_passed scan interval row groups h asked upto = counted_passed scan.query scan.segment interval row groups h asked upto

-- no group more
pub upto_none : (scan : Scan) (interval : Extent) (row : ℕ) (groups none : List Group) → none ≡ [] → AreUpto scan interval row groups → AreUpto scan interval row (groups ++ none)
upto_none scan interval row groups none e upto =
    let P : List Group → Type 0 = AreUpto scan interval row in
    subst P (sym (ap (λ l. groups ++ l) e ∙ append-nil groups)) upto

-- ---- groups handed out

pub group_pushed : (scan : Scan) (before pushed whole : List Group) (group : Group) (c : Cell) (o : Option Cell) (left rest : List (Option Cell)) → left ≡ o ∷ rest → o ≡ Some c → group ≡ group_at scan c → pushed ≡ before ++ group ∷ [] → before ++ groups_in scan left ≡ whole → pushed ++ groups_in scan rest ≡ whole
group_pushed scan before pushed whole group c o left rest l s g p e =
    ap (λ gs. gs ++ groups_in scan rest) p ∙ append_assoc before (group ∷ []) (groups_in scan rest)
    ∙ ap (λ x. before ++ x ∷ groups_in scan rest) g
    ∙ ap (λ x. before ++ groups_in scan (x ∷ rest)) (sym s) ∙ ap (λ x. before ++ groups_in scan x) (sym l) ∙ e

pub group_skipped : (scan : Scan) (before whole : List Group) (o : Option Cell) (left rest : List (Option Cell)) → left ≡ o ∷ rest → o ≡ None → before ++ groups_in scan left ≡ whole → before ++ groups_in scan rest ≡ whole
group_skipped scan before whole o left rest l n e =
    ap (λ x. before ++ groups_in scan (x ∷ rest)) (sym n) ∙ ap (λ x. before ++ groups_in scan x) (sym l) ∙ e

each_kept : (scan : Scan) (cells : List (Option Cell)) → ((place : ℕ) (c : Cell) → slice_get cells place ≡ Some (Some c) → IsKept scan (Some c)) → All (IsKept scan) cells
each_kept scan [] are = All-nil (IsKept scan)
each_kept scan (None ∷ cells) are = All-cons (IsKept scan) None cells tt (each_kept scan cells (λ place. are (suc place)))
each_kept scan (Some c ∷ cells) are = All-cons (IsKept scan) (Some c) cells (are zero c refl) (each_kept scan cells (λ place. are (suc place)))

pub all_cells_kept : (scan : Scan) (bucket : ℕ) (cells : List (Option Cell)) → AreCells scan bucket cells → All (IsKept scan) cells
all_cells_kept scan bucket cells are = each_kept scan cells (λ place c e. let is = are place c e in (is.inside, is.numbers))

pub kept_rest : (scan : Scan) (o : Option Cell) (left rest : List (Option Cell)) → left ≡ o ∷ rest → All (IsKept scan) left → All (IsKept scan) rest
kept_rest scan o left rest l k = let P : List (Option Cell) → Type 0 = All (IsKept scan) in All-tail (IsKept scan) o rest (subst P l k)

pub group_same : (scan : Scan) (c : Cell) (row : ℕ) (numbers : List (Option ℤ)) (g : Group) → row ≡ c.row → numbers ≡ c.numbers → g ≡ record { key = (counted_at scan row).key; numbers = numbers } → g ≡ group_at scan c
group_same scan c row numbers g r n e = e ∙ (λ i. record { key = (counted_at scan (r i)).key; numbers = n i })

pub kept_here : (scan : Scan) (c : Cell) (o : Option Cell) (left rest : List (Option Cell)) → left ≡ o ∷ rest → o ≡ Some c → All (IsKept scan) left → IsKept scan (Some c)
kept_here scan c o left rest l e k =
    let P : List (Option Cell) → Type 0 = All (IsKept scan) in
    let Q : Option Cell → Type 0 = IsKept scan in
    subst Q e (All-head (IsKept scan) o rest (subst P l k))

-- the numbers of groups that were added are of 64 bits
pub words_after : (scan : Scan) (interval : Extent) (to : ℕ) (groups more : List Group) → AreUpto scan interval to (groups ++ more) → All (λ (g : Group). AreWords g.numbers) more
words_after scan interval to groups more upto =
    each_of more
    (λ g c. (All-contains (HasNumbers (kinds_of scan.query)) (groups ++ more) g upto.numbers (Contains-append_right groups more g c)).words)
  where
    each_of : (gs : List Group) → ((g : Group) → Contains gs g → AreWords g.numbers) → All (λ (g : Group). AreWords g.numbers) gs
    each_of [] f = All-nil (λ (g : Group). AreWords g.numbers)
    each_of (g ∷ gs) f = All-cons (λ (g : Group). AreWords g.numbers) g gs (f g (Contains-here g gs)) (each_of gs (λ h c. f h (Contains-later g gs h c)))
