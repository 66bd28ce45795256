-- Rows by columns: the row at a place, and the columns again.
use Rattle.std.proofs.Common.{◌≡◌, ◌↔◌, ◌+◌, Bool, true, false, IsTrue, MatchBool, ◌∙◌, ℕ, ℤ, ◌<◌, List, length, map, get_or, Option, None, All, IfSome, FitsSigned, ap, subst, sym, refl, inl, inr, arith}
use Rattle.std.specs.Int.{w64}
use Rattle.std.specs.List.{range_with_len}
use Rattle.std.proofs.lemmas.List.{same_lists, get_or-map, get_or_past, length-map, get_or_default}
use Rattle.std.proofs.lemmas.List.Elements.{All-weaker, All-map}
use Rattle.std.proofs.lemmas.Bool.{false≢true, cases_lt}
use Rattle.std.specs.List.Sorted.{IsNonDecreasing}
use Rattle.std.proofs.lemmas.Grind.{common_steps}
use Rattle.std.proofs.lemmas.List.FromFn.{get_or-map-range_with_len, length-map-range_with_len}
use Rattle.druid_segment_rows.specs.Rows.{Row, row_of, no_row, AreWords, HasWords}
use Rattle.druid_segment_rows.specs.Columns.{column, across, rows_in, AreLong}
use Rattle.druid_segment_rows.specs.Table.{Table, table_of}

-- the row that the columns make at a place
abbrev row_across : List ℕ → List (List (Option (List ℕ))) → List (List (Option ℤ)) → ℕ → Row
row_across times texts numbers place = row_of (get_or times place 0) (across texts place) (across numbers place)

pub length_rows_in : (times : List ℕ) (texts : List (List (Option (List ℕ)))) (numbers : List (List (Option ℤ))) → length (rows_in times texts numbers) ≡ length times
length_rows_in times texts numbers = length-map-range_with_len (row_across times texts numbers) 0 (length times)

pub rows_in_at : (times : List ℕ) (texts : List (List (Option (List ℕ)))) (numbers : List (List (Option ℤ))) (i : ℕ) (e : Row) → i < length times → get_or (rows_in times texts numbers) i e ≡ row_of (get_or times i 0) (across texts i) (across numbers i)
rows_in_at times texts numbers i e h =
    get_or-map-range_with_len (row_across times texts numbers) 0 (length times) i i e h (omega arith)

-- the value of one column at a place
pub across_at : {X : Type 0} (columns : List (List (Option X))) (i c : ℕ) (column : List (Option X)) → c < length columns → column ≡ get_or columns c column → get_or (across columns i) c None ≡ get_or column i None
across_at columns i c column h is =
    get_or-map (λ column. get_or column i None) columns c column None h ∙ ap (λ column. get_or column i None) (sym is)

-- a test of order
pub rises_iff : (xs : List ℕ) (r : Bool) → MatchBool r (IsNonDecreasing xs) ((k : ℕ) × (k + 1 < length xs) × ((d : ℕ) → get_or xs (k + 1) d < get_or xs k d)) → IsTrue r ↔ IsNonDecreasing xs
rises_iff xs true h = (λ yes. h, λ up. refl)
rises_iff xs false h = (λ yes. absurd (false≢true yes), λ up. absurd (omega (arith, up h.0 (h.0 + 1) 0 (omega arith) h.1, h.2 0)))

-- the instants again
pub times_again : (times : List ℕ) (texts : List (List (Option (List ℕ)))) (numbers : List (List (Option ℤ))) → map (λ (row : Row). row.time) (rows_in times texts numbers) ≡ times
times_again times texts numbers =
    let rows = rows_in times texts numbers in
    let long : length (map (λ (row : Row). row.time) rows) ≡ length times = length-map rows (λ (row : Row). row.time) ∙ length_rows_in times texts numbers in
    same_lists (map (λ (row : Row). row.time) rows) times long (λ k d h.
    let within : k < length times = omega (arith, long, h) in
    let inside : k < length rows = omega (arith, length_rows_in times texts numbers, within) in
    get_or-map (λ (row : Row). row.time) rows k no_row d inside
    ∙ ap (λ (row : Row). row.time) (rows_in_at times texts numbers k no_row within)
    ∙ get_or_default times k 0 d within)

-- a column of values again
module _ {X : Type 0} (part : Row → List (Option X)) where
  column_again : (columns : List (List (Option X))) (rows : List Row) (c : ℕ) (column : List (Option X)) → ((i : ℕ) → i < length rows → part (get_or rows i no_row) ≡ across columns i)
      → length column ≡ length rows → c < length columns → column ≡ get_or columns c column → map (λ row. get_or (part row) c None) rows ≡ column
  column_again columns rows c column at long h is =
      let same : length (map (λ row. get_or (part row) c None) rows) ≡ length column = length-map rows (λ row. get_or (part row) c None) ∙ sym long in
      same_lists (map (λ row. get_or (part row) c None) rows) column same (λ k d lt.
      let inside : k < length rows = omega (arith, same, long, lt) in
      let within : k < length column = omega (arith, long, inside) in
      get_or-map (λ row. get_or (part row) c None) rows k no_row d inside
      ∙ ap (λ vs. get_or vs c None) (at k inside)
      ∙ across_at columns k c column h is
      ∙ get_or_default column k None d within)

pub texts_again : (times : List ℕ) (texts : List (List (Option (List ℕ)))) (numbers : List (List (Option ℤ))) (c : ℕ) (values : List (Option (List ℕ))) → AreLong (length times) texts → c < length texts → values ≡ get_or texts c values → column c (rows_in times texts numbers) ≡ values
texts_again times texts numbers c values all h is =
    let rows = rows_in times texts numbers in
    let long : length values ≡ length rows = ap length is ∙ all c values h ∙ sym (length_rows_in times texts numbers) in
    column_again (λ row. row.dimensions) texts rows c values (λ i lt. ap (λ (row : Row). row.dimensions) (rows_in_at times texts numbers i no_row (omega (arith, length_rows_in times texts numbers, lt)))) long h is

pub numbers_again : (times : List ℕ) (texts : List (List (Option (List ℕ)))) (numbers : List (List (Option ℤ))) (c : ℕ) (values : List (Option ℤ)) → AreLong (length times) numbers → c < length numbers → values ≡ get_or numbers c values → map (λ (row : Row). get_or row.metrics c None) (rows_in times texts numbers) ≡ values
numbers_again times texts numbers c values all h is =
    let rows = rows_in times texts numbers in
    let long : length values ≡ length rows = ap length is ∙ all c values h ∙ sym (length_rows_in times texts numbers) in
    column_again (λ row. row.metrics) numbers rows c values (λ i lt. ap (λ (row : Row). row.metrics) (rows_in_at times texts numbers i no_row (omega (arith, length_rows_in times texts numbers, lt)))) long h is

-- ---- a table of these columns

pub length_of_table : (times : List ℕ) (texts : List (List (Option (List ℕ)))) (numbers : List (List (Option ℤ))) (table : Table) → table_of times texts numbers ≡ table → length table.rows ≡ length times
length_of_table times texts numbers table is = ap (λ (t : Table). length t.rows) (sym is) ∙ length_rows_in times texts numbers

pub times_of_table : (times : List ℕ) (texts : List (List (Option (List ℕ)))) (numbers : List (List (Option ℤ))) (table : Table) → table_of times texts numbers ≡ table → times ≡ map (λ (row : Row). row.time) table.rows
times_of_table times texts numbers table is = sym (times_again times texts numbers) ∙ ap (λ (t : Table). map (λ (row : Row). row.time) t.rows) is

pub time_of_row : (times : List ℕ) (texts : List (List (Option (List ℕ)))) (numbers : List (List (Option ℤ))) (table : Table) (i : ℕ) → table_of times texts numbers ≡ table → i < length table.rows → (get_or table.rows i no_row).time ≡ get_or times i 0
time_of_row times texts numbers table i is h =
    ap (λ (t : Table). (get_or t.rows i no_row).time) (sym is) ∙ ap (λ (row : Row). row.time) (rows_in_at times texts numbers i no_row (omega (arith, length_of_table times texts numbers table is, h)))

pub column_of_table : (times : List ℕ) (texts : List (List (Option (List ℕ)))) (numbers : List (List (Option ℤ))) (table : Table) (c : ℕ) (values : List (Option (List ℕ))) → table_of times texts numbers ≡ table → AreLong (length times) texts → c < table.dimensions → values ≡ get_or texts c values → values ≡ column c table.rows
column_of_table times texts numbers table c values is all h at =
    let within : c < length texts = omega (arith, h, ap (λ (t : Table). t.dimensions) is) in
    sym (texts_again times texts numbers c values all within at) ∙ ap (λ (t : Table). column c t.rows) is

pub numbers_of_table : (times : List ℕ) (texts : List (List (Option (List ℕ)))) (numbers : List (List (Option ℤ))) (table : Table) (c : ℕ) (values : List (Option ℤ)) → table_of times texts numbers ≡ table → AreLong (length times) numbers → c < table.metrics → values ≡ get_or numbers c values → values ≡ map (λ (row : Row). get_or row.metrics c None) table.rows
numbers_of_table times texts numbers table c values is all h at =
    let within : c < length numbers = omega (arith, h, ap (λ (t : Table). t.metrics) is) in
    sym (numbers_again times texts numbers c values all within at) ∙ ap (λ (t : Table). map (λ (row : Row). get_or row.metrics c None) t.rows) is

-- ---- a cell of a column

pub text_cell : (rows : List Row) (row dimension : ℕ) → row < length rows → get_or (column dimension rows) row None ≡ get_or (get_or rows row no_row).dimensions dimension None
text_cell rows row dimension h = get_or-map (λ (r : Row). get_or r.dimensions dimension None) rows row no_row None h

pub number_cell : (rows : List Row) (row metric : ℕ) (d : Option ℤ) → row < length rows → get_or (map (λ (r : Row). get_or r.metrics metric None) rows) row d ≡ get_or (get_or rows row no_row).metrics metric None
number_cell rows row metric d h = get_or-map (λ (r : Row). get_or r.metrics metric None) rows row no_row d h

-- finds a cell
pub ruleset cell_steps = (text_cell, number_cell, length-map, common_steps)

-- ---- a row

-- each column reaches a place that the instants reach
pub all_reach : {X : Type 0} (row rows : ℕ) (columns : List (List X)) → row < rows → AreLong rows columns → All (λ column. row < length column) columns
all_reach {X} row rows columns h all = All-weaker (λ (column : List X). length column ≡ rows) (λ column. row < length column) (λ column long. omega (arith, long, h)) columns all

pub row_of_table : (times : List ℕ) (texts : List (List (Option (List ℕ)))) (numbers : List (List (Option ℤ))) (table : Table) (i : ℕ) → table_of times texts numbers ≡ table → i < length table.rows → get_or table.rows i no_row ≡ row_of (get_or times i 0) (across texts i) (across numbers i)
row_of_table times texts numbers table i is h =
    ap (λ (t : Table). get_or t.rows i no_row) (sym is) ∙ rows_in_at times texts numbers i no_row (omega (arith, length_of_table times texts numbers table is, h))

-- ---- numbers of 64 bits

word_at : (column : List (Option ℤ)) (place : ℕ) → AreWords column → IfSome (get_or column place None) (FitsSigned w64)
word_at column place words = elim (cases_lt place (length column)) [
  | inl within ↦ words place None within
  | inr past ↦ subst (λ value. IfSome value (FitsSigned w64)) (sym (get_or_past column place None past)) tt
]

words_across : (numbers : List (List (Option ℤ))) (place : ℕ) → All AreWords numbers → AreWords (across numbers place)
words_across numbers place all =
    All-map (λ number. IfSome number (FitsSigned w64)) (λ column. get_or column place None) numbers
    (All-weaker AreWords (λ column. IfSome (get_or column place None) (FitsSigned w64)) (λ column words. word_at column place words) numbers all)

-- rows of words, from columns of words
pub words_in : (times : List ℕ) (texts : List (List (Option (List ℕ)))) (numbers : List (List (Option ℤ))) → All AreWords numbers → All HasWords (rows_in times texts numbers)
words_in times texts numbers all =
    All-map HasWords (row_across times texts numbers) (range_with_len 0 (length times)) (λ i d h. words_across numbers (get_or (range_with_len 0 (length times)) i d) all)
