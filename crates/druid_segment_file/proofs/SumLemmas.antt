-- The length in rows of columns.
use Rattle.std.proofs.Common.{◌≡◌, ℕ, ℤ, ◌+◌, ◌*◌, ◌<◌, List, [], ◌∷◌, length, map, get_or, Option, None, refl, sym, ap, ◌∙◌, arith}
use Rattle.std.specs.Prelude.{All}
use Rattle.std.specs.List.{sum, range_with_len}
use Rattle.std.proofs.lemmas.List.{same_lists, get_or-map, length-map}
use Rattle.std.proofs.lemmas.List.Sums.{sum_by-cons}
use Rattle.std.proofs.lemmas.List.Elements.{All-head, All-tail}
use Rattle.std.proofs.lemmas.List.FromFn.{get_or-map-range_with_len, length-map-range_with_len, length-range_with_len}
use Rattle.druid_segment_rows.specs.Rows.{Row, row_of}
use Rattle.druid_segment_rows.specs.Columns.{across, rows_in, AreLong}
use Rattle.druid_segment_rows.specs.Segment.{text_value_length, number_value_length, row_length}
use Rattle.druid_segment_file.specs.ColumnReader.{Columns, decoded, rows_of}
use Rattle.druid_segment_file.specs.FileRules.{texts_length, numbers_length, columns_length}

sum_cons : (x : ℕ) (xs : List ℕ) → sum (x ∷ xs) ≡ x + sum xs
sum_cons x xs = sum_by-cons (λ (n : ℕ). n) x xs

sum_zero : {A : Type 0} (xs : List A) → sum (map (λ x. 0) xs) ≡ 0
sum_zero [] = refl
sum_zero (x ∷ xs) = omega (arith, sum_cons 0 (map (λ x. 0) xs), sum_zero xs)

sum_each : {A : Type 0} (n : ℕ) (xs : List A) → n ≡ 8 → sum (map (λ x. n) xs) ≡ 8 * length xs
sum_each n [] e = refl
sum_each n (x ∷ xs) e = omega (arith, sum_cons n (map (λ x. n) xs), sum_each n xs e, e)

sum_plus : {A : Type 0} (f g : A → ℕ) (xs : List A) → sum (map (λ x. f x + g x) xs) ≡ sum (map f xs) + sum (map g xs)
sum_plus f g [] = refl
sum_plus f g (x ∷ xs) =
    omega (arith, sum_cons (f x + g x) (map (λ x. f x + g x) xs), sum_cons (f x) (map f xs), sum_cons (g x) (map g xs), sum_plus f g xs)

maps_maps : {A B C : Type 0} (f : B → C) (g : A → B) (xs : List A) → map f (map g xs) ≡ map (λ x. f (g x)) xs
maps_maps f g [] = refl
maps_maps f g (x ∷ xs) = ap (λ (ys : List _). f (g x) ∷ ys) (maps_maps f g xs)

maps_agree : {A B : Type 0} (f g : A → B) (xs : List A) → All (λ x. f x ≡ g x) xs → map f xs ≡ map g xs
maps_agree f g [] all = refl
maps_agree f g (x ∷ xs) all =
    let here = All-head (λ x. f x ≡ g x) x xs all in
    let rest = maps_agree f g xs (All-tail (λ x. f x ≡ g x) x xs all) in
    λ i. here i ∷ rest i

module _ {X : Type 0} (measure : Option X → ℕ) where
  -- row by row, and column by column
  sum_across : (places : List ℕ) (columns : List (List (Option X))) → sum (map (λ place. sum (map measure (across columns place))) places) ≡ sum (map (λ column. sum (map (λ place. measure (get_or column place None)) places)) columns)
  sum_across places [] = sum_zero places
  sum_across places (column ∷ columns) =
      let one : ℕ → ℕ = λ place. measure (get_or column place None) in
      let others : ℕ → ℕ = λ place. sum (map measure (across columns place)) in
      let apart : sum (map (λ place. sum (map measure (across (column ∷ columns) place))) places) ≡ sum (map (λ place. one place + others place) places) =
      ap (λ (f : ℕ → ℕ). sum (map f places)) (λ i place. sum_cons (one place) (map measure (across columns place)) i) in
      omega (arith, apart, sum_plus one others places, sum_across places columns, sum_cons (sum (map one places)) (map (λ column. sum (map (λ place. measure (get_or column place None)) places)) columns))

  whole_column : (rows : ℕ) (column : List (Option X)) → length column ≡ rows → map (λ place. measure (get_or column place None)) (range_with_len 0 rows) ≡ map measure column
  whole_column rows column long =
      let f : ℕ → ℕ = λ place. measure (get_or column place None) in
      let here = length-map-range_with_len f 0 rows in
      same_lists (map f (range_with_len 0 rows)) (map measure column) (here ∙ sym long ∙ sym (length-map column measure)) (λ k d lt.
      let within : k < rows = omega (arith, lt, here) in
      get_or-map-range_with_len f 0 rows k k d within (omega arith) ∙ sym (get_or-map measure column k None d (omega (arith, within, long))))

  whole_columns : (rows : ℕ) (columns : List (List (Option X))) → AreLong rows columns → sum (map (λ place. sum (map measure (across columns place))) (range_with_len 0 rows)) ≡ sum (map (λ column. sum (map measure column)) columns)
  whole_columns rows columns long =
      sum_across (range_with_len 0 rows) columns
      ∙ ap sum (maps_agree (λ column. sum (map (λ place. measure (get_or column place None)) (range_with_len 0 rows))) (λ column. sum (map measure column)) columns (λ k d lt. ap sum (whole_column rows (get_or columns k d) (long k d lt))))

rows_sum : (times : List ℕ) (texts : List (List (Option (List ℕ)))) (numbers : List (List (Option ℤ))) → AreLong (length times) texts → AreLong (length times) numbers
    → sum (map row_length (rows_in times texts numbers)) ≡ 8 * length times + sum (map texts_length texts) + sum (map numbers_length numbers)
rows_sum times texts numbers long_texts long_numbers =
    let places = range_with_len 0 (length times) in
    let row : ℕ → Row = λ place. row_of (get_or times place 0) (across texts place) (across numbers place) in
    let of_texts : ℕ → ℕ = λ place. sum (map text_value_length (across texts place)) in
    let of_numbers : ℕ → ℕ = λ place. sum (map number_value_length (across numbers place)) in
    let eight : ℕ → ℕ = λ place. 8 in
    let same : sum (map row_length (map row places)) ≡ sum (map (λ place. (eight place + of_texts place) + of_numbers place) places) = ap sum (maps_maps row_length row places) in
    omega (arith, same, sum_plus (λ place. eight place + of_texts place) of_numbers places, sum_plus eight of_texts places, sum_each 8 places refl, length-range_with_len 0 (length times), whole_columns text_value_length (length times) texts long_texts, whole_columns number_value_length (length times) numbers long_numbers)

pub rows_length : (columns : Columns) → AreLong (length columns.times) (map decoded columns.dimensions) → AreLong (length columns.times) columns.metrics → sum (map row_length (rows_of columns)) ≡ columns_length columns
rows_length columns long_texts long_numbers =
    let whole = rows_sum columns.times (map decoded columns.dimensions) columns.metrics long_texts long_numbers in
    let texts = ap sum (maps_maps texts_length decoded columns.dimensions) in
    omega (arith, whole, texts)
