-- Columns that get one more value each: a row more.
use Rattle.std.proofs.Common.{◌≡◌, ◌∙◌, ℕ, ℤ, zero, suc, ◌+◌, ◌<◌, ◌≤◌, List, [], ◌∷◌, ◌++◌, length, map, take, get_or, set, replicate, Option, None, ap, sym, refl, arith, ⊎_elim}
use Rattle.std.proofs.lemmas.Bool.{cases_lt}
use Rattle.std.proofs.lemmas.List.{same_lists, take_at, take_all, get_or_push, get_or_append_left, length_push, set-get_or}
use Rattle.std.proofs.lemmas.List.Elements.{All-nil, All-cons, All-head, All-tail, All-replicate}
use Rattle.druid_segment_rows.specs.Rows.{Row, row_of}
use Rattle.druid_segment_rows.specs.Columns.{across, rows_in, AreLong}
use Rattle.druid_segment_rows.specs.Table.{HasWidths, table_of, with_values, with_one_more}
use Rattle.druid_segment_rows.proofs.TableLemmas.{length_rows_in, rows_in_at}

module _ {X : Type 0} where
  pub length_lengthened : (columns : List (List X)) (values : List X) → length (with_values columns values) ≡ length columns
  length_lengthened [] values = refl
  length_lengthened (column ∷ columns) [] = refl
  length_lengthened (column ∷ columns) (value ∷ values) = ap suc (length_lengthened columns values)

  pub lengthened_none : (columns : List (List X)) → with_values columns [] ≡ columns
  lengthened_none [] = refl
  lengthened_none (column ∷ columns) = refl

  lengthened_next : (columns : List (List X)) (values : List X) (i : ℕ) (d : List X) (value : X) → i < length columns → i < length values → set (with_values columns (take i values)) i (get_or (with_values columns (take i values)) i d ++ get_or values i value ∷ []) ≡ with_values columns (take (suc i) values)
  lengthened_next [] values i d value h k = absurd (omega arith)
  lengthened_next (column ∷ columns) [] i d value h k = absurd (omega arith)
  lengthened_next (column ∷ columns) (v ∷ values) zero d value h k = ap (λ cs. (column ++ v ∷ []) ∷ cs) (sym (lengthened_none columns))
  lengthened_next (column ∷ columns) (v ∷ values) (suc i) d value h k =
      ap (λ cs. (column ++ v ∷ []) ∷ cs) (lengthened_next columns values i d value (omega (arith, h)) (omega (arith, k)))

  -- one more column is longer
  pub lengthened_more : (columns now : List (List X)) (values : List X) (i : ℕ) (column d : List X) (value : X) → i < length columns → i < length values → now ≡ with_values columns (take i values) → column ≡ get_or now i d ++ get_or values i value ∷ [] → set now i column ≡ with_values columns (take (i + 1) values)
  lengthened_more columns now values i column d value h k is made =
      let one : suc i ≡ i + 1 = omega arith in
      ap (set now i) made ∙ ap (λ cs. set cs i (get_or cs i d ++ get_or values i value ∷ [])) is ∙ lengthened_next columns values i d value h k ∙ ap (λ n. with_values columns (take n values)) one

  -- cut to what they had, they are as before
  pub cut_lengthened : (rows : ℕ) (columns : List (List X)) (values : List X) → AreLong rows columns → map (take rows) (with_values columns values) ≡ columns
  cut_lengthened rows [] values long = refl
  cut_lengthened rows (column ∷ columns) [] long =
      let here = take_all rows column (omega (arith, All-head (λ (c : List X). length c ≡ rows) column columns long)) in
      let rest : map (take rows) columns ≡ columns = ap (map (take rows)) (sym (lengthened_none columns)) ∙ cut_lengthened rows columns [] (All-tail (λ (c : List X). length c ≡ rows) column columns long) in
      λ i. here i ∷ rest i
  cut_lengthened rows (column ∷ columns) (value ∷ values) long =
      let here = take_at column (value ∷ []) rows (All-head (λ (c : List X). length c ≡ rows) column columns long) in
      let rest = cut_lengthened rows columns values (All-tail (λ (c : List X). length c ≡ rows) column columns long) in
      λ i. here i ∷ rest i

  -- a column that stays as it is
  pub cut_unchanged : (columns now : List (List X)) (values : List X) (i : ℕ) (column d : List X) → now ≡ with_values columns values → column ≡ get_or now i d → (rows : ℕ) → AreLong rows columns → map (take rows) (set now i column) ≡ columns
  cut_unchanged columns now values i column d is same rows long =
      ap (λ c. map (take rows) (set now i c)) same ∙ ap (map (take rows)) (set-get_or now i d) ∙ ap (map (take rows)) is ∙ cut_lengthened rows columns values long

  pub AreLong_lengthened : (rows : ℕ) (columns : List (List X)) (values : List X) → length values ≡ length columns → AreLong rows columns → AreLong (suc rows) (with_values columns values)
  AreLong_lengthened rows [] values wide long = All-nil (λ (c : List X). length c ≡ suc rows)
  AreLong_lengthened rows (column ∷ columns) [] wide long = absurd (omega (arith, wide))
  AreLong_lengthened rows (column ∷ columns) (value ∷ values) wide long =
      let here : length (column ++ value ∷ []) ≡ suc rows = omega (arith, length_push column value, All-head (λ (c : List X). length c ≡ rows) column columns long) in
      All-cons (λ (c : List X). length c ≡ suc rows) (column ++ value ∷ []) (with_values columns values) here (AreLong_lengthened rows columns values (omega (arith, wide)) (All-tail (λ (c : List X). length c ≡ rows) column columns long))

  pub AreLong_none : (n : ℕ) → AreLong {X = X} 0 (replicate n [])
  AreLong_none n = All-replicate (λ (c : List X). length c ≡ 0) n [] refl

module _ {X : Type 0} where
  -- the rows that were there stay
  across_front : (rows i : ℕ) (columns : List (List (Option X))) (values : List (Option X)) → AreLong rows columns → i < rows → across (with_values columns values) i ≡ across columns i
  across_front rows i [] values long h = refl
  across_front rows i (column ∷ columns) [] long h = refl
  across_front rows i (column ∷ columns) (value ∷ values) long h =
      let within : i < length column = omega (arith, h, All-head (λ (c : List (Option X)). length c ≡ rows) column columns long) in
      let here = get_or_append_left column (value ∷ []) None i within in
      let rest = across_front rows i columns values (All-tail (λ (c : List (Option X)). length c ≡ rows) column columns long) h in
      λ j. here j ∷ rest j

  -- the last row has the values that came
  across_last : (rows : ℕ) (columns : List (List (Option X))) (values : List (Option X)) → AreLong rows columns → length values ≡ length columns → across (with_values columns values) rows ≡ values
  across_last rows [] [] long wide = refl
  across_last rows [] (value ∷ values) long wide = absurd (omega (arith, wide))
  across_last rows (column ∷ columns) [] long wide = absurd (omega (arith, wide))
  across_last rows (column ∷ columns) (value ∷ values) long wide =
      let here = get_or_push column value None rows (All-head (λ (c : List (Option X)). length c ≡ rows) column columns long) in
      let rest = across_last rows columns values (All-tail (λ (c : List (Option X)). length c ≡ rows) column columns long) (omega (arith, wide)) in
      λ j. here j ∷ rest j

module _ (times : List ℕ) (texts : List (List (Option (List ℕ)))) (numbers : List (List (Option ℤ))) (row : Row) where
  row_pushed : AreLong (length times) texts → AreLong (length times) numbers → HasWidths (length texts) (length numbers) row → (k : ℕ) (d : Row) → k ≤ length times
      → row_of (get_or (times ++ row.time ∷ []) k 0) (across (with_values texts row.dimensions) k) (across (with_values numbers row.metrics) k) ≡ get_or (rows_in times texts numbers ++ row ∷ []) k d
  row_pushed lt ln wide k d h =
      let n = length times in
      let old = rows_in times texts numbers in
      ⊎_elim (λ (less : k < n).
      let time = get_or_append_left times (row.time ∷ []) 0 k less in
      let text = across_front n k texts row.dimensions lt less in
      let number = across_front n k numbers row.metrics ln less in
      (λ i. row_of (time i) (text i) (number i)) ∙ sym (rows_in_at times texts numbers k d less) ∙ sym (get_or_append_left old (row ∷ []) d k (omega (arith, less, length_rows_in times texts numbers)))) (λ (past : n ≤ k).
      let at : k ≡ n = omega (arith, past, h) in
      let time = get_or_push times row.time 0 k (sym at) in
      let text = ap (across (with_values texts row.dimensions)) at ∙ across_last n texts row.dimensions lt wide.dimensions_are in
      let number = ap (across (with_values numbers row.metrics)) at ∙ across_last n numbers row.metrics ln wide.metrics_are in
      (λ i. row_of (time i) (text i) (number i)) ∙ sym (get_or_push old row d k (length_rows_in times texts numbers ∙ sym at))) (cases_lt k n)

  -- one more value of each column is one more row
  pub rows_in_push : AreLong (length times) texts → AreLong (length times) numbers → HasWidths (length texts) (length numbers) row → rows_in (times ++ row.time ∷ []) (with_values texts row.dimensions) (with_values numbers row.metrics) ≡ rows_in times texts numbers ++ row ∷ []
  rows_in_push lt ln wide =
      let n = length times in
      let times' = times ++ row.time ∷ [] in
      let texts' = with_values texts row.dimensions in
      let numbers' = with_values numbers row.metrics in
      let old = rows_in times texts numbers in
      let n' : length times' ≡ n + 1 = length_push times row.time in
      let o' : length (old ++ row ∷ []) ≡ n + 1 = length_push old row ∙ ap (λ k. k + 1) (length_rows_in times texts numbers) in
      same_lists (rows_in times' texts' numbers') (old ++ row ∷ []) (length_rows_in times' texts' numbers' ∙ n' ∙ sym o') (λ k d h.
      let inside : k < length times' = omega (arith, h, length_rows_in times' texts' numbers') in
      rows_in_at times' texts' numbers' k d inside ∙ row_pushed lt ln wide k d (omega (arith, inside, n')))

  pub table_push : AreLong (length times) texts → AreLong (length times) numbers → HasWidths (length texts) (length numbers) row → table_of (times ++ row.time ∷ []) (with_values texts row.dimensions) (with_values numbers row.metrics) ≡ with_one_more (table_of times texts numbers) row
  table_push lt ln wide =
      let rows = rows_in_push lt ln wide in
      let d = length_lengthened texts row.dimensions in
      let m = length_lengthened numbers row.metrics in
      λ i. record { dimensions = d i; metrics = m i; rows = rows i }
