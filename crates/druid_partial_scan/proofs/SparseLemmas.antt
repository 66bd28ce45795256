-- A row joined to the group of its cell in a map.
use Rattle.std.proofs.Common.{◌≡◌, ◌∙◌, ℕ, ◌<◌, ℤ, List, [], ◌∷◌, ◌++◌, length, cond, Option, Some, None, refl, sym, ap, subst, append_assoc}
use Rattle.std.specs.List.{AllByRecursion}
use Rattle.std.specs.List.Sorted.{IsStrictlySortedBy}
use Rattle.std.specs.Map.{keys_of, lookup, set_value}
use Rattle.std.specs.BTreeMap.{insert_entry, is_at}
use Rattle.std.specs.Ordering.{nat_cmp, is_eq, match_ordering}
use Rattle.std.specs.declared.cmp.Ordering.{Ordering}
use Rattle.std.specs.declared.cmp.Ordering.TheVariants.{Less, Equal, Greater}
use Rattle.std.proofs.lemmas.Cmp.{nat_cmp_total}
use Rattle.std.proofs.lemmas.Map.Keys.{sorted_head, sorted_tail}
use Rattle.std.proofs.lemmas.Map.Lookups.{exact_unsigned}
use Rattle.druid_query.specs.declared.aggregator.AggregatorKind.{AggregatorKind}
use Rattle.druid_segment_rows.specs.Segment.{row_at}
use Rattle.druid_partial.specs.Groups.{Group, AreWords, key_cmp}
use Rattle.druid_partial.specs.Joined.{join_numbers, join_groups, put, merged}
use Rattle.druid_partial.specs.Partials.{kinds_of, HasNumbers}
use Rattle.druid_partial_scan.specs.Cells.{Cell, join_into, with_row, entered_at, IsEntered}
use Rattle.druid_partial_scan.specs.Scans.{Scan, counted_at, bucket_at, cell_at, group_at, groups_by, IsCell, AreEntries, IsJoinedBy, IsKept, AreKept}
use Rattle.std.proofs.lemmas.List.Elements.{All-nil, All-cons}
use Rattle.druid_partial.proofs.GroupLemmas.{key_same}
use Rattle.druid_partial_scan.proofs.IntoLemmas.{into_is}
use Rattle.druid_partial_scan.proofs.ReportLemmas.{row_numbers}
use Rattle.druid_partial_scan.proofs.PutLemmas.{HasColumns, keys_order, with_kept}

-- a row of the plan, and where its group belongs
record IsRow (scan : Scan) (bucket row : ℕ) : Type 0 where
  columns : HasColumns scan
  inside : row < length scan.segment.rows
  bucket_is : bucket_at scan row ≡ bucket
  numbers : HasNumbers (kinds_of scan.query) (counted_at scan row)

tie : (scan : Scan) (bucket row : ℕ) (e : ℕ × Cell) → IsRow scan bucket row → IsCell scan bucket e.0 e.1 → key_cmp (counted_at scan row).key (group_at scan e.1).key ≡ nat_cmp (cell_at scan row) e.0
tie scan bucket row e r c = keys_order scan row e.1.row r.columns r.inside c.inside (r.bucket_is ∙ sym c.bucket_is) ∙ ap (nat_cmp (cell_at scan row)) c.place_is

-- a new cell
entered_new : (scan : Scan) (bucket row : ℕ) (es : List (ℕ × Cell)) → IsRow scan bucket row → AreEntries scan bucket es → lookup (is_at (nat_cmp (cell_at scan row))) es ≡ None → groups_by scan (insert_entry nat_cmp es (cell_at scan row) (with_row (kinds_of scan.query) row (counted_at scan row).numbers None)) ≡ merged (kinds_of scan.query) (counted_at scan row ∷ []) (groups_by scan es)
entered_new scan bucket row [] r are none = refl
entered_new scan bucket row (e ∷ es) r are none =
    by_order (nat_cmp (cell_at scan row) e.0) none (entered_new scan bucket row es r are.1)
    ∙ sym (ap (λ o. match_ordering o (counted_at scan row ∷ group_at scan e.1 ∷ groups_by scan es) (join_groups (kinds_of scan.query) (counted_at scan row) (group_at scan e.1) ∷ groups_by scan es) (group_at scan e.1 ∷ put (kinds_of scan.query) (counted_at scan row) (merged (kinds_of scan.query) []) (groups_by scan es))) (tie scan bucket row e r are.0))
  where
    by_order : (o : Ordering) → cond (is_eq o) (Some e.1) (lookup (is_at (nat_cmp (cell_at scan row))) es) ≡ None
        → (lookup (is_at (nat_cmp (cell_at scan row))) es ≡ None → groups_by scan (insert_entry nat_cmp es (cell_at scan row) (with_row (kinds_of scan.query) row (counted_at scan row).numbers None)) ≡ merged (kinds_of scan.query) (counted_at scan row ∷ []) (groups_by scan es))
        → groups_by scan (match_ordering o ((cell_at scan row, with_row (kinds_of scan.query) row (counted_at scan row).numbers None) ∷ e ∷ es) ((e.0, with_row (kinds_of scan.query) row (counted_at scan row).numbers None) ∷ es) (e ∷ insert_entry nat_cmp es (cell_at scan row) (with_row (kinds_of scan.query) row (counted_at scan row).numbers None)))
        ≡ match_ordering o (counted_at scan row ∷ group_at scan e.1 ∷ groups_by scan es) (join_groups (kinds_of scan.query) (counted_at scan row) (group_at scan e.1) ∷ groups_by scan es) (group_at scan e.1 ∷ put (kinds_of scan.query) (counted_at scan row) (merged (kinds_of scan.query) []) (groups_by scan es))
    by_order Less none later = refl
    by_order Equal none later = absurd (cc)
    by_order Greater none later = ap (λ l. group_at scan e.1 ∷ l) (later none)

gone : (cell : ℕ) (es : List (ℕ × Cell)) → AllByRecursion (λ k. nat_cmp cell k ≡ Less) (keys_of es) → lookup (is_at (nat_cmp cell)) es ≡ None
gone cell [] below = refl
gone cell (e ∷ es) below = ap (λ o. cond (is_eq o) (Some e.1) (lookup (is_at (nat_cmp cell)) es)) below.0 ∙ gone cell es below.1

less_all : (cell : ℕ) (e : ℕ × Cell) (es : List (ℕ × Cell)) → nat_cmp cell e.0 ≡ Less → AllByRecursion (λ k. nat_cmp e.0 k ≡ Less) (keys_of es) → AllByRecursion (λ k. nat_cmp cell k ≡ Less) (keys_of es)
less_all cell e [] l below = tt
less_all cell e (f ∷ es) l below = (nat_cmp_total.trans cell e.0 f.0 l below.0, less_all cell e es l below.1)

-- a cell that is there
entered_old : (scan : Scan) (bucket row : ℕ) (es : List (ℕ × Cell)) (old : Cell) → IsRow scan bucket row → AreEntries scan bucket es → IsStrictlySortedBy nat_cmp (keys_of es) → lookup (is_at (nat_cmp (cell_at scan row))) es ≡ Some old → groups_by scan (set_value (is_at (nat_cmp (cell_at scan row))) es (with_row (kinds_of scan.query) row (counted_at scan row).numbers (Some old))) ≡ merged (kinds_of scan.query) (counted_at scan row ∷ []) (groups_by scan es)
entered_old scan bucket row [] old r are sorted there = absurd (cc)
entered_old scan bucket row (e ∷ es) old r are sorted there =
    by_order (nat_cmp (cell_at scan row) e.0) refl there (entered_old scan bucket row es old r are.1 (sorted_tail nat_cmp e.0 (keys_of es) sorted))
    ∙ sym (ap (λ o. match_ordering o (counted_at scan row ∷ group_at scan e.1 ∷ groups_by scan es) (join_groups (kinds_of scan.query) (counted_at scan row) (group_at scan e.1) ∷ groups_by scan es) (group_at scan e.1 ∷ put (kinds_of scan.query) (counted_at scan row) (merged (kinds_of scan.query) []) (groups_by scan es))) (tie scan bucket row e r are.0))
  where
    by_order : (o : Ordering) → nat_cmp (cell_at scan row) e.0 ≡ o → cond (is_eq o) (Some e.1) (lookup (is_at (nat_cmp (cell_at scan row))) es) ≡ Some old
        → (lookup (is_at (nat_cmp (cell_at scan row))) es ≡ Some old → groups_by scan (set_value (is_at (nat_cmp (cell_at scan row))) es (with_row (kinds_of scan.query) row (counted_at scan row).numbers (Some old))) ≡ merged (kinds_of scan.query) (counted_at scan row ∷ []) (groups_by scan es))
        → groups_by scan (cond (is_eq o) ((e.0, with_row (kinds_of scan.query) row (counted_at scan row).numbers (Some old)) ∷ es) (e ∷ set_value (is_at (nat_cmp (cell_at scan row))) es (with_row (kinds_of scan.query) row (counted_at scan row).numbers (Some old))))
        ≡ match_ordering o (counted_at scan row ∷ group_at scan e.1 ∷ groups_by scan es) (join_groups (kinds_of scan.query) (counted_at scan row) (group_at scan e.1) ∷ groups_by scan es) (group_at scan e.1 ∷ put (kinds_of scan.query) (counted_at scan row) (merged (kinds_of scan.query) []) (groups_by scan es))
    by_order Less is t later =
        let none = gone (cell_at scan row) es (less_all (cell_at scan row) e es is (sorted_head nat_cmp e.0 (keys_of es) sorted)) in
        let clash : Some old ≡ None = sym t ∙ none in absurd (cc)
    by_order Equal is t later =
        let same : old ≡ e.1 = cc in
        let g = counted_at scan row in
        let kinds = kinds_of scan.query in
        let tied : key_cmp g.key (group_at scan e.1).key ≡ Equal = tie scan bucket row e r are.0 ∙ is in
        let keys : (counted_at scan e.1.row).key ≡ g.key = sym (key_same g.key (group_at scan e.1).key tied) in
        let numbers : join_into kinds g.numbers e.1.numbers ≡ join_numbers kinds g.numbers e.1.numbers = into_is kinds g.numbers e.1.numbers r.numbers.one_each are.0.numbers.one_each in
        let head : group_at scan (with_row kinds row g.numbers (Some e.1)) ≡ join_groups kinds g (group_at scan e.1) = (λ i. record { key = keys i; numbers = numbers i }) in
        ap (λ c. group_at scan (with_row kinds row g.numbers (Some c)) ∷ groups_by scan es) same ∙ ap (λ x. x ∷ groups_by scan es) head
    by_order Greater is t later = ap (λ l. group_at scan e.1 ∷ l) (later t)

-- ---- each stays in its cell

kept_new : (scan : Scan) (bucket row : ℕ) (es : List (ℕ × Cell)) → IsRow scan bucket row → AreEntries scan bucket es → lookup (is_at (nat_cmp (cell_at scan row))) es ≡ None → AreEntries scan bucket (insert_entry nat_cmp es (cell_at scan row) (with_row (kinds_of scan.query) row (counted_at scan row).numbers None))
kept_new scan bucket row [] r are none = (with_kept scan bucket (cell_at scan row) row None r.inside r.bucket_is refl r.numbers (λ d e. absurd (cc)), tt)
kept_new scan bucket row (e ∷ es) r are none = by_order (nat_cmp (cell_at scan row) e.0) none (kept_new scan bucket row es r are.1)
  where
    by_order : (o : Ordering) → cond (is_eq o) (Some e.1) (lookup (is_at (nat_cmp (cell_at scan row))) es) ≡ None
        → (lookup (is_at (nat_cmp (cell_at scan row))) es ≡ None → AreEntries scan bucket (insert_entry nat_cmp es (cell_at scan row) (with_row (kinds_of scan.query) row (counted_at scan row).numbers None)))
        → AreEntries scan bucket (match_ordering o ((cell_at scan row, with_row (kinds_of scan.query) row (counted_at scan row).numbers None) ∷ e ∷ es) ((e.0, with_row (kinds_of scan.query) row (counted_at scan row).numbers None) ∷ es) (e ∷ insert_entry nat_cmp es (cell_at scan row) (with_row (kinds_of scan.query) row (counted_at scan row).numbers None)))
    by_order Less none later = (with_kept scan bucket (cell_at scan row) row None r.inside r.bucket_is refl r.numbers (λ d e. absurd (cc)), are)
    by_order Equal none later = absurd (cc)
    by_order Greater none later = (are.0, later none)

kept_old : (scan : Scan) (bucket row : ℕ) (es : List (ℕ × Cell)) (old : Cell) → IsRow scan bucket row → AreEntries scan bucket es → lookup (is_at (nat_cmp (cell_at scan row))) es ≡ Some old → AreEntries scan bucket (set_value (is_at (nat_cmp (cell_at scan row))) es (with_row (kinds_of scan.query) row (counted_at scan row).numbers (Some old)))
kept_old scan bucket row [] old r are there = absurd (cc)
kept_old scan bucket row (e ∷ es) old r are there = by_order (nat_cmp (cell_at scan row) e.0) refl there (kept_old scan bucket row es old r are.1)
  where
    by_order : (o : Ordering) → nat_cmp (cell_at scan row) e.0 ≡ o → cond (is_eq o) (Some e.1) (lookup (is_at (nat_cmp (cell_at scan row))) es) ≡ Some old
        → (lookup (is_at (nat_cmp (cell_at scan row))) es ≡ Some old → AreEntries scan bucket (set_value (is_at (nat_cmp (cell_at scan row))) es (with_row (kinds_of scan.query) row (counted_at scan row).numbers (Some old))))
        → AreEntries scan bucket (cond (is_eq o) ((e.0, with_row (kinds_of scan.query) row (counted_at scan row).numbers (Some old)) ∷ es) (e ∷ set_value (is_at (nat_cmp (cell_at scan row))) es (with_row (kinds_of scan.query) row (counted_at scan row).numbers (Some old))))
    by_order Less is t later = (are.0, later t)
    by_order Equal is t later =
        let same : e.1 ≡ old = cc in
        let P : Cell → Type 0 = IsCell scan bucket e.0 in (
          with_kept scan bucket e.0 row (Some old) r.inside r.bucket_is (exact_unsigned (cell_at scan row) e.0 is) r.numbers
              (λ d f. let one : old ≡ d = cc in subst P (same ∙ one) are.0),
          are.1,
        )
    by_order Greater is t later = (are.0, later t)

-- the row's group is merged
pub entries_joined : (scan : Scan) (row cell : ℕ) (kinds : List AggregatorKind) (numbers : List (Option ℤ)) (old new : List (ℕ × Cell)) → HasColumns scan → row < length scan.segment.rows → AreWords (counted_at scan row).numbers → kinds ≡ kinds_of scan.query → numbers ≡ (counted_at scan row).numbers → cell ≡ cell_at scan row → IsEntered kinds row numbers cell old new → IsJoinedBy scan row old new
entries_joined scan row cell kinds numbers old new columns h words k ns at entered =
    let own = kinds_of scan.query in
    let reported = (counted_at scan row).numbers in
    let own_cell = cell_at scan row in
    let whole : List (ℕ × Cell) = entered_at own row reported own_cell old (lookup (is_at (nat_cmp own_cell)) old) in
    let same : new ≡ whole =
    entered.is ∙ ap (λ i. entered_at kinds row numbers i old (lookup (is_at (nat_cmp i)) old)) at
    ∙ ap (λ ks. entered_at ks row numbers own_cell old (lookup (is_at (nat_cmp own_cell)) old)) k
    ∙ ap (λ xs. entered_at own row xs own_cell old (lookup (is_at (nat_cmp own_cell)) old)) ns in
    let has = row_numbers scan.query scan.segment.fields (row_at scan.segment row) words in
    let P : List (ℕ × Cell) → Type 0 = IsJoinedBy scan row old in
    subst P (sym same) (by_lookup has (lookup (is_at (nat_cmp own_cell)) old) refl)
  where
    by_lookup : HasNumbers (kinds_of scan.query) (counted_at scan row) → (o : Option Cell) → lookup (is_at (nat_cmp (cell_at scan row))) old ≡ o → IsJoinedBy scan row old (entered_at (kinds_of scan.query) row (counted_at scan row).numbers (cell_at scan row) old o)
    by_lookup has None e = record {
      groups = λ bucket b are. entered_new scan bucket row old (record { columns = columns; inside = h; bucket_is = b; numbers = has }) are e;
      entries = λ bucket b are. kept_new scan bucket row old (record { columns = columns; inside = h; bucket_is = b; numbers = has }) are e;
    }
    by_lookup has (Some c) e = record {
      groups = λ bucket b are. entered_old scan bucket row old c (record { columns = columns; inside = h; bucket_is = b; numbers = has }) are entered.sorted e;
      entries = λ bucket b are. kept_old scan bucket row old c (record { columns = columns; inside = h; bucket_is = b; numbers = has }) are e;
    }

-- a group handed out
pub entry_pushed : (scan : Scan) (before pushed whole : List Group) (group : Group) (e : ℕ × Cell) (left rest : List (ℕ × Cell)) → left ≡ e ∷ rest → group ≡ group_at scan e.1 → pushed ≡ before ++ group ∷ [] → before ++ groups_by scan left ≡ whole → pushed ++ groups_by scan rest ≡ whole
entry_pushed scan before pushed whole group e left rest l g p is =
    ap (λ gs. gs ++ groups_by scan rest) p ∙ append_assoc before (group ∷ []) (groups_by scan rest)
    ∙ ap (λ x. before ++ x ∷ groups_by scan rest) g ∙ ap (λ x. before ++ groups_by scan x) (sym l) ∙ is

pub all_entries_kept : (scan : Scan) (bucket : ℕ) (es : List (ℕ × Cell)) → AreEntries scan bucket es → AreKept scan es
all_entries_kept scan bucket [] are = All-nil (λ e. IsKept scan (Some e.1))
all_entries_kept scan bucket (e ∷ es) are = All-cons (λ e. IsKept scan (Some e.1)) e es (are.0.inside, are.0.numbers) (all_entries_kept scan bucket es are.1)
