-- Sums of lengths, taken from a room one by one.
use Rattle.std.proofs.Common.{◌≡◌, ◌+◌, ℕ, ℤ, List, Option, String, length, map, sum, string_bytes, option_map, ◌∙◌}
use Rattle.std.specs.Global.{Global}
use Rattle.std.specs.List.{sum_by}
use Rattle.std.proofs.lemmas.List.Sums.{sum-map}
use Rattle.std.proofs.lemmas.List.Folds.{fold-map}
use Rattle.druid_segment_rows.specs.Rows.{Row, texts_of, texts_by}
use Rattle.druid_segment_rows.specs.Segment.{text_value_length, number_value_length, row_length}

-- the length of a name with its mark
abbrev pub name_length : String Global → ℕ
name_length name = 1 + length (string_bytes name)

abbrev pub text_length_by : {T : Type 0} → (T → List ℕ) → Option T → ℕ
text_length_by text value = text_value_length (option_map text value)

pub sum_names : (names : List (String Global)) → sum (map (λ name. 1 + length name) (texts_of names)) ≡ sum_by name_length names
sum_names names =
    sum-map (λ (name : List ℕ). 1 + length name) (texts_of names) ∙ fold-map (λ a (name : List ℕ). a + (1 + length name)) string_bytes 0 names

pub sum_texts : {T : Type 0} (text : T → List ℕ) (values : List (Option T)) → sum (map text_value_length (texts_by text values)) ≡ sum_by (text_length_by text) values
sum_texts text values =
    sum-map text_value_length (texts_by text values) ∙ fold-map (λ a value. a + text_value_length value) (option_map text) 0 values

pub sum_numbers : (values : List (Option ℤ)) → sum (map number_value_length values) ≡ sum_by number_value_length values
sum_numbers values = sum-map number_value_length values

pub sum_rows : (rows : List Row) → sum (map row_length rows) ≡ sum_by row_length rows
sum_rows rows = sum-map row_length rows
