-- The bytes of a segment in the layout `DSG2`: as `DSG1` up to the number of rows, and then by columns.
use Rattle.std.specs.Prelude.{◌≡◌, ℕ, ℤ, ◌<◌, List, [], ◌∷◌, ◌++◌, length, map, slice_index_or, Option, None, Some, codes}
use Rattle.std.specs.List.{flat_map, range_with_len}
use Rattle.std.specs.Int.{w16, w32, to_be_bytes}
use Rattle.druid_segment_rows.specs.Rows.{Row}
use Rattle.druid_segment_rows.specs.Columns.{column, IsDictionary, AreCodes}
use Rattle.druid_segment_rows.specs.Segment.{Segment}
use Rattle.druid_segment_file.specs.ByteParts.{number, instant, names, descriptor}

-- what a file of this layout begins with
abbrev pub column_magic : List ℕ
column_magic = codes "DSG2"

-- a dimension: the texts that occur, and a code for each row
pub record Coded : Type 0 where
  pub texts : List (List ℕ)
  pub codes : List ℕ

abbrev pub no_values : Coded
no_values = record { texts = []; codes = [] }

-- a text of a dictionary: its length in two bytes, and its bytes
abbrev pub value : List ℕ → List ℕ
value text = to_be_bytes w16 (length text) ++ text

-- how many texts there are, in four bytes, the texts, and a code for each row, in four bytes
abbrev pub dimension : Coded → List ℕ
dimension coded = to_be_bytes w32 (length coded.texts) ++ flat_map value coded.texts ++ flat_map (to_be_bytes w32) coded.codes

-- 0 for null, and 1 for a number
abbrev pub mark : Option ℤ → List ℕ
mark None = 0 ∷ []
mark (Some n) = 1 ∷ []

-- the number, where there is one
abbrev pub present : Option ℤ → List ℕ
present None = []
present (Some n) = number n

-- a metric: a mark for each row, and then the numbers that there are
abbrev pub metric : List (Option ℤ) → List ℕ
metric numbers = flat_map mark numbers ++ flat_map present numbers

-- the number or null of each row for the metric at that place
abbrev pub numbers_of : List Row → ℕ → List (Option ℤ)
numbers_of rows place = map (λ row. slice_index_or row.metrics place None) rows

-- the values of a dimension are coded so: its dictionary, and the codes in it
pub record IsCoded (values : List (Option (List ℕ))) (coded : Coded) : Type 0 where
  pub dictionary : IsDictionary values coded.texts
  pub codes : AreCodes coded.texts values coded.codes

-- each dimension of the segment is coded so
pub record AreCoded (segment : Segment) (dimensions : List Coded) : Type 0 where
  pub long : length dimensions ≡ length segment.fields.dimensions
  pub each : (place : ℕ) → place < length dimensions → IsCoded (column place segment.rows) (slice_index_or dimensions place no_values)

-- the spelling of a segment whose dimensions are coded so
abbrev pub column_spelling : Segment → List Coded → List ℕ
column_spelling segment dimensions =
    column_magic ++ descriptor segment.descriptor ++ names segment.fields.dimensions ++ names segment.fields.metrics
    ++ to_be_bytes w32 (length segment.rows)
    ++ flat_map (λ (row : Row). instant row.time) segment.rows
    ++ flat_map dimension dimensions
    ++ flat_map (λ place. metric (numbers_of segment.rows place)) (range_with_len 0 (length segment.fields.metrics))

-- the bytes are the one spelling of the segment by columns
abbrev pub IsColumnSpelling : List ℕ → Segment → Type 0
IsColumnSpelling bytes segment = (dimensions : List Coded) × AreCoded segment dimensions × (bytes ≡ column_spelling segment dimensions)
