-- A segment that is judged first, and then built of the rows or the columns that are read.
use Rattle.std.specs.Prelude.{◌≡◌, ℕ, ℤ, ◌+◌, ◌≤◌, Bool, false, true, List, [], ◌++◌, length, map, drop, Option, None, Some, Result, Ok, Err, IsOk}
use Rattle.druid_segment_descriptor.specs.Described.{Described}
use Rattle.druid_segment_rows.specs.Rows.{Schema, Row}
use Rattle.druid_segment_rows.specs.Segment.{Segment, IsSegment, segment_of, text_length, max_rows, max_text}
use Rattle.druid_segment_rows.specs.Columns.{AreLong}
use Rattle.druid_segment_file.specs.ColumnBytes.{Coded}
use Rattle.druid_segment_file.specs.declared.fault.FileFault.{FileFault}
use Rattle.druid_segment_file.specs.declared.layout.Layout.{Layout}
use Rattle.druid_segment_file.specs.declared.layout.Layout.TheVariants.{ByRows, ByColumns}
use Rattle.druid_time.specs.Results.{◌>>=◌}
use Rattle.druid_segment_file.specs.Parts.{signed_at, descriptor_at, fields_at, row_count_at, Shape, shape_of, each_at, values_at}
use Rattle.druid_segment_file.specs.ColumnReader.{Columns, columns_at, decoded, rows_of, column_content_at}
use Rattle.druid_segment_file.specs.Reader.{Cursor, row_content_at, content_at}

-- the same of a part of which something could be kept
abbrev pub Skips : {X A : Type 0} → Cursor → Cursor → Result X FileFault → Result (A × List ℕ) FileFault → Type 0
Skips {X} {A} old new (Ok x) read = ((part : A) × (read ≡ Ok (part, new.rest))) × (new.short ≡ old.short)
Skips old new (Err fault) read = read ≡ Err fault

-- what was read is kept, and the cursor follows it
pub record Keeps {A : Type 0} (old new : Cursor) (part : A) (read : Result (A × List ℕ) FileFault) : Type 0 where
  pub is : read ≡ Ok (part, new.rest)
  pub short : new.short ≡ old.short

-- columns that were read and kept: their texts and numbers, as many as there are rows in each
pub record AreKept (old new : Cursor) (shape : Shape) (rows : ℕ) (times : List ℕ) (texts : List (List (Option (List ℕ)))) (metrics : List (List (Option ℤ))) : Type 0 where
  pub dimensions : List Coded
  pub read : columns_at old.short shape rows old.rest ≡ Ok (record { times = times; dimensions = dimensions; metrics = metrics }, new.rest)
  pub same : texts ≡ map decoded dimensions
  pub texts_long : AreLong (length times) texts
  pub numbers_long : AreLong (length times) metrics
  pub dimensions_are : length texts ≡ shape.dimensions
  pub metrics_are : length metrics ≡ shape.metrics

-- the number of a row that has one
abbrev pub present_value_at : FileFault → Bool → List ℕ → Result (Option ℤ × List ℕ) FileFault
present_value_at short false bytes = Ok (None, bytes)
present_value_at short true bytes = signed_at short bytes >>= λ number. Ok (Some number.0, number.1)

-- the content in that layout
abbrev pub content_of : Layout → FileFault → List ℕ → Result (Segment × List ℕ) FileFault
content_of ByRows short bytes = row_content_at short bytes
content_of ByColumns short bytes = column_content_at short bytes

-- what stands before the rows was read, after the name of the layout, and the number of the rows
pub record IsHead (short : FileFault) (bytes : List ℕ) (d : Described) (fields : Schema) (count : ℕ) (rest : List ℕ) : Type 0 where
  pub after_descriptor : List ℕ
  pub after_fields : List ℕ
  pub described : descriptor_at short bytes ≡ Ok (d, after_descriptor)
  pub named : fields_at short after_descriptor ≡ Ok (fields, after_fields)
  pub counted : row_count_at short after_fields ≡ Ok (count, rest)

-- and the rows after it
pub record IsWhole (short : FileFault) (bytes : List ℕ) (d : Described) (fields : Schema) (count : ℕ) (rest after : List ℕ) : Type 0 where
  pub head : IsHead short bytes d fields count rest
  pub rows : List Row
  pub read : each_at (values_at short (shape_of d fields)) count rest ≡ Ok (rows, after)

-- or the columns
pub record IsWholeByColumns (short : FileFault) (bytes : List ℕ) (d : Described) (fields : Schema) (count : ℕ) (rest after : List ℕ) : Type 0 where
  pub head : IsHead short bytes d fields count rest
  pub columns : Columns
  pub read : columns_at short (shape_of d fields) count rest ≡ Ok (columns, after)
  pub text : text_length (segment_of d fields (rows_of columns)) ≤ max_text

-- the rows or the columns after it, in that layout
abbrev pub IsWholeIn : Layout → FileFault → List ℕ → Described → Schema → ℕ → List ℕ → List ℕ → Type 0
IsWholeIn ByRows short bytes d fields count rest after = IsWhole short bytes d fields count rest after
IsWholeIn ByColumns short bytes d fields count rest after = IsWholeByColumns short bytes d fields count rest after

-- all was read, from the name of the layout on
pub record IsJudged (short : FileFault) (bytes : List ℕ) (layout : Layout) (d : Described) (fields : Schema) (count : ℕ) (rest after : List ℕ) : Type 0 where
  pub beyond : List ℕ
  pub named : beyond ≡ drop 4 bytes
  pub len : length bytes ≡ 4 + length beyond
  pub content : content_at short bytes ≡ content_of layout short beyond
  pub whole : IsWholeIn layout short beyond d fields count rest after

-- a segment whose rows have this shape, and that takes so many more, spelled in so many bytes
pub record HasRoom (segment : Segment) (shape : Shape) (count len : ℕ) : Type 0 where
  pub valid : IsSegment segment
  pub shaped : shape ≡ shape_of segment.descriptor segment.fields
  pub rows : length segment.rows + count ≤ max_rows
  pub text : text_length segment + len ≤ max_text

-- the segment with the rows that are read after its own
abbrev pub with_read : Segment → Result (List Row × List ℕ) FileFault → Result (Segment × List ℕ) FileFault
with_read segment read = read >>= λ x. Ok (segment_of segment.descriptor segment.fields (segment.rows ++ x.0), x.1)

-- there is room for the rows that are read, or the columns that are read make a segment
abbrev pub CanBuild : Layout → FileFault → Described → Schema → ℕ → List ℕ → Type 0
CanBuild ByRows short d fields count rest = HasRoom (segment_of d fields []) (shape_of d fields) count (length rest) × IsOk (each_at (values_at short (shape_of d fields)) count rest)
CanBuild ByColumns short d fields count rest = (count ≤ max_rows) × IsOk (columns_at short (shape_of d fields) count rest)
    × ((columns : Columns) (after : List ℕ) → columns_at short (shape_of d fields) count rest ≡ Ok (columns, after) → IsSegment (segment_of d fields (rows_of columns)))

-- the segment of the rows or of the columns that are read
abbrev pub IsBuilt : Layout → FileFault → Described → Schema → ℕ → List ℕ → Segment → Type 0
IsBuilt ByRows short d fields count rest segment = (after : List ℕ) × (with_read (segment_of d fields []) (each_at (values_at short (shape_of d fields)) count rest) ≡ Ok (segment, after))
IsBuilt ByColumns short d fields count rest segment = (columns : Columns) × (after : List ℕ) × (columns_at short (shape_of d fields) count rest ≡ Ok (columns, after)) × (segment ≡ segment_of d fields (rows_of columns))
