-- What a segment is, and the length of its text.
use Rattle.std.specs.Prelude.{◌≡◌, ℕ, ℤ, false, ◌+◌, ◌≤◌, List, [], ◌∷◌, ◌++◌, length, map, All, Option, None, Some, slice_index_or}
use Rattle.std.specs.List.{sum}
use Rattle.druid_segment_descriptor.specs.Described.{Described}
use Rattle.druid_segment_rows.specs.Rows.{Schema, Row, IsSchema, HasShape, IsInside, HasShortValues, HasWords, no_row}

-- what is announced of it, the fields of its rows, and its rows in their order, which is free
pub record Segment : Type 0 where
  pub descriptor : Described
  pub fields : Schema
  pub rows : List Row

-- the segment of these parts
abbrev pub segment_of : Described → Schema → List Row → Segment
segment_of descriptor fields rows = record { descriptor = descriptor; fields = fields; rows = rows }

-- the most dimensions, and the most metrics
abbrev pub max_fields : ℕ
max_fields = 64

-- the most rows
abbrev pub max_rows : ℕ
max_rows = 100000

-- the most bytes of the text of a segment
abbrev pub max_text : ℕ
max_text = 16777216

-- a mark, and the length of a text and its bytes where there is one
abbrev pub text_value_length : Option (List ℕ) → ℕ
text_value_length None = 1
text_value_length (Some text) = 3 + length text

-- a mark, and a number where there is one
abbrev pub number_value_length : Option ℤ → ℕ
number_value_length None = 1
number_value_length (Some number) = 9

-- the instant and the values
abbrev pub row_length : Row → ℕ
row_length row = 8 + sum (map text_value_length row.dimensions) + sum (map number_value_length row.metrics)

-- how many names there are, and of each its length and its bytes
abbrev pub names_length : List (List ℕ) → ℕ
names_length names = 1 + sum (map (λ name. 1 + length name) names)

-- what stands before the rows: four bytes that name the layout, the source, the interval, the version, the
-- partition and the number of core partitions, the size, the names and the number of rows
abbrev pub head_length : Described → Schema → ℕ
head_length descriptor fields =
    4 + (1 + length descriptor.id.source) + 16 + (1 + length descriptor.id.version) + 4 + 8
    + names_length fields.dimensions + names_length fields.metrics + 4

-- the bytes of the text of a segment, in the layout of segment files
abbrev pub text_length : Segment → ℕ
text_length content = head_length content.descriptor content.fields + sum (map row_length content.rows)

-- no limit is passed
pub record IsWithinLimits (content : Segment) : Type 0 where
  pub dimensions : length content.fields.dimensions ≤ max_fields
  pub metrics : length content.fields.metrics ≤ max_fields
  pub rows : length content.rows ≤ max_rows
  pub values : All HasShortValues content.rows
  pub text : text_length content ≤ max_text

-- each row has the shape of the schema
abbrev pub HaveShape : Segment → Type 0
HaveShape content = All (HasShape content.fields) content.rows

-- each row lies in the interval of the segment
abbrev pub AreInside : Segment → Type 0
AreInside content = All (IsInside content.descriptor.id.interval) content.rows

-- the numbers of its rows are of 64 bits, as those of each row of its type
abbrev pub HaveWords : Segment → Type 0
HaveWords content = All HasWords content.rows

-- it is announced as no tombstone, which has no rows
pub record IsSegment (content : Segment) : Type 0 where
  pub ordinary : content.descriptor.tombstone ≡ false
  pub schema : IsSchema content.fields
  pub within : IsWithinLimits content
  pub shape : HaveShape content
  pub inside : AreInside content

-- the segment with one more row at its end
abbrev pub with_row : Segment → Row → Segment
with_row content row = record {
  descriptor = content.descriptor;
  fields = content.fields;
  rows = content.rows ++ row ∷ [];
}

-- the row at that place
abbrev pub row_at : Segment → ℕ → Row
row_at content i = slice_index_or content.rows i no_row
