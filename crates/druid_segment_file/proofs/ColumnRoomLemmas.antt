-- How long the spelling of a segment by columns is, part by part.
use Rattle.std.proofs.Common.{◌≡◌, ℕ, ℤ, ◌+◌, ◌-◌, ◌*◌, ◌<◌, ◌≤◌, List, [], ◌∷◌, ◌++◌, length, take, get_or, Option, Some, None, SomeIff, ap, subst, sym, refl, ◌∙◌, arith}
use Rattle.std.specs.List.{flat_map, range_with_len, sum_by}
use Rattle.std.proofs.lemmas.List.Folds.{length-flat_map-take}
use Rattle.std.proofs.lemmas.List.FromFn.{get_or-range_with_len}
use Rattle.std.specs.Int.{w32, to_be_bytes}
use Rattle.std.proofs.lemmas.List.{length-append, length-map, flat_map_more, take_more}
use Rattle.std.proofs.lemmas.List.Sums.{sum_by-cons}
use Rattle.druid_segment_rows.specs.Rows.{Row}
use Rattle.druid_segment_rows.specs.Columns.{column, IsDictionary}
use Rattle.druid_segment_rows.specs.Segment.{Segment, number_value_length, head_length}
use Rattle.druid_segment_rows.proofs.ColumnLemmas.{IsDictionary_unique, length_codes}
use Rattle.druid_segment_file.specs.ByteParts.{instant, names, descriptor}
use Rattle.druid_segment_file.specs.ColumnBytes.{column_magic, Coded, no_values, AreCoded, value, dimension, mark, present, metric, numbers_of, column_spelling}
use Rattle.druid_segment_file.specs.Heading.{heading_after}
use Rattle.druid_segment_file.proofs.LengthLemmas.{length_five, length_descriptor, length_names}

-- the length of a text of a dictionary
abbrev pub value_length : List ℕ → ℕ
value_length text = 2 + length text

pub length_values : (texts : List (List ℕ)) → length (flat_map value texts) ≡ sum_by value_length texts
length_values [] = refl
length_values (text ∷ texts) =
    omega (arith, length-append (value text) (flat_map value texts), sum_by-cons value_length text texts, length_values texts)

length_both : (number : Option ℤ) → length (mark number) + length (present number) ≡ number_value_length number
length_both None = refl
length_both (Some n) = refl

marks_and_numbers : (numbers : List (Option ℤ)) → length (flat_map mark numbers) + length (flat_map present numbers) ≡ sum_by number_value_length numbers
marks_and_numbers [] = refl
marks_and_numbers (number ∷ numbers) =
    omega (arith, length_both number, length-append (mark number) (flat_map mark numbers), length-append (present number) (flat_map present numbers), sum_by-cons number_value_length number numbers, marks_and_numbers numbers)

pub length_metric : (numbers : List (Option ℤ)) → length (metric numbers) ≡ sum_by number_value_length numbers
length_metric numbers = length-append (flat_map mark numbers) (flat_map present numbers) ∙ marks_and_numbers numbers

length_all_codes : (codes : List ℕ) → length (flat_map (to_be_bytes w32) codes) ≡ 4 * length codes
length_all_codes [] = refl
length_all_codes (code ∷ codes) =
    omega (arith, length-append (to_be_bytes w32 code) (flat_map (to_be_bytes w32) codes), length_all_codes codes)

pub length_dimension : (coded : Coded) → length (dimension coded) ≡ 4 + 4 * length coded.codes + length (flat_map value coded.texts)
length_dimension coded =
    let count = to_be_bytes w32 (length coded.texts) in
    let texts = flat_map value coded.texts in
    omega (arith, length-append (count ++ texts) (flat_map (to_be_bytes w32) coded.codes), length-append count texts, length_all_codes coded.codes)

-- a dimension that is coded, by the texts of its dictionary
pub length_coded : (segment : Segment) (dimensions : List Coded) (place : ℕ) (texts : List (List ℕ)) → AreCoded segment dimensions → place < length dimensions → IsDictionary (column place segment.rows) texts
    → length (dimension (get_or dimensions place no_values)) ≡ 4 + 4 * length segment.rows + length (flat_map value texts)
length_coded segment dimensions place texts all lt is =
    let coded = get_or dimensions place no_values in
    let values = column place segment.rows in
    let each = all.each place lt in
    let same = IsDictionary_unique values coded.texts texts each.dictionary is in
    let long = length_codes coded.texts values coded.codes each.codes ∙ length-map segment.rows (λ (row : Row). get_or row.dimensions place None) in
    length_dimension coded ∙ omega (arith, long, ap (λ ts. length (flat_map value ts)) same)

-- one part more
pub length_more : {A : Type 0} (spell : A → List ℕ) (parts : List A) (i : ℕ) (d : A) → i < length parts → length (flat_map spell (take (i + 1) parts)) ≡ length (flat_map spell (take i parts)) + length (spell (get_or parts i d))
length_more spell parts i d lt =
    ap length (ap (flat_map spell) (take_more parts i d lt) ∙ sym (flat_map_more spell [] (take i parts) (get_or parts i d)))
    ∙ length-append (flat_map spell (take i parts)) (spell (get_or parts i d))

one_length : (number : Option ℤ) → 0 < number_value_length number
one_length None = omega arith
one_length (Some n) = omega arith

pub some_metric : (numbers : List (Option ℤ)) → 0 < length numbers → 0 < length (metric numbers)
some_metric [] some = absurd (omega (arith, some))
some_metric (number ∷ numbers) some =
    omega (arith, length_metric (number ∷ numbers), sum_by-cons number_value_length number numbers, one_length number)

-- the metric at a place
pub metric_at : (rows : List Row) (n i : ℕ) (numbers : List (Option ℤ)) → i < n → numbers ≡ numbers_of rows i → metric numbers ≡ metric (numbers_of rows (get_or (range_with_len 0 n) i 0))
metric_at rows n i numbers lt is =
    let here : i ≡ get_or (range_with_len 0 n) i 0 = omega (arith, get_or-range_with_len 0 n i 0 lt) in
    ap metric is ∙ ap (λ place. metric (numbers_of rows place)) here

-- ---- a room that parts are taken from

pub none_iff : (r : Option ℕ) (P : Type 0) (v : ℕ) → r ≡ None → (P → ⊥) → SomeIff r P v
none_iff r P v is not = subst (λ o. SomeIff o P v) (sym is) not

-- a room after more was taken
pub some_iff_moved : (r : Option ℕ) (taken a b whole most : ℕ) → whole ≡ taken + a → most ≡ taken + b → SomeIff r (a ≤ b) (b - a) → SomeIff r (whole ≤ most) (most - whole)
some_iff_moved None taken a b whole most e f h = λ fits. h (omega (arith, e, f, fits))
some_iff_moved (Some x) taken a b whole most e f h = (omega (arith, e, f, h.0), omega (arith, e, f, h.0, h.1))

pub part_too_long : {A : Type 0} (spell : A → List ℕ) (parts : List A) (i : ℕ) (d : A) (len room whole : ℕ) → i < length parts → length (spell (get_or parts i d)) ≡ len → room + length (flat_map spell (take i parts)) ≡ whole → (len ≤ room → ⊥) → length (flat_map spell parts) ≤ whole → ⊥
part_too_long spell parts i d len room whole lt is so_far long fits =
    long (omega (arith, is, so_far, fits, length-flat_map-take spell parts i d lt))

pub part_fits : {A : Type 0} (spell : A → List ℕ) (parts : List A) (i : ℕ) (d : A) (len room whole left : ℕ) → i < length parts → length (spell (get_or parts i d)) ≡ len → room + length (flat_map spell (take i parts)) ≡ whole → len ≤ room → left ≡ room - len → left + length (flat_map spell (take (i + 1) parts)) ≡ whole
part_fits spell parts i d len room whole left lt is so_far fits e =
    omega (arith, is, so_far, fits, e, length_more spell parts i d lt)

-- ---- the whole

length_times : (rows : List Row) → length (flat_map (λ (row : Row). instant row.time) rows) ≡ 8 * length rows
length_times [] = refl
length_times (row ∷ rows) =
    omega (arith, length-append (instant row.time) (flat_map (λ (row : Row). instant row.time) rows), length_times rows)

length_heading : (segment : Segment) → length (heading_after column_magic segment) ≡ head_length segment.descriptor segment.fields
length_heading s =
    omega (arith, length_five column_magic (descriptor s.descriptor) (names s.fields.dimensions) (names s.fields.metrics) (to_be_bytes w32 (length s.rows)), length_descriptor s.descriptor, length_names s.fields.dimensions, length_names s.fields.metrics)

pub length_column_spelling : (segment : Segment) (dimensions : List Coded) → length (column_spelling segment dimensions) ≡ head_length segment.descriptor segment.fields + 8 * length segment.rows + length (flat_map dimension dimensions) + length (flat_map (λ place. metric (numbers_of segment.rows place)) (range_with_len 0 (length segment.fields.metrics)))
length_column_spelling segment dimensions =
    let head = heading_after column_magic segment in
    let times = flat_map (λ (row : Row). instant row.time) segment.rows in
    let coded = flat_map dimension dimensions in
    let metrics = flat_map (λ place. metric (numbers_of segment.rows place)) (range_with_len 0 (length segment.fields.metrics)) in
    omega (arith, length-append ((head ++ times) ++ coded) metrics, length-append (head ++ times) coded, length-append head times, length_heading segment, length_times segment.rows)
