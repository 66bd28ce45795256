-- Reading a segment by columns, from left to right.
use Rattle.std.specs.Prelude.{ℕ, ℤ, zero, suc, Bool, true, false, ◌&&◌, ◌==◌, List, [], ◌∷◌, map, Option, Some, None, Result, Ok, Err, nat_le}
use Rattle.std.specs.List.{list_any}
use Rattle.std.specs.Int.{w32}
use Rattle.std.specs.Ordering.{nat_cmp, is_lt}
use Rattle.std.specs.Cmp.Lexicographic.{slice_cmp}
use Rattle.druid_segment_rows.specs.Rows.{Row}
use Rattle.druid_segment_rows.specs.Columns.{value_at, rows_in}
use Rattle.druid_segment_rows.specs.Segment.{Segment, segment_of, text_length, max_text}
use Rattle.druid_time.specs.Results.{◌>>=◌}
use Rattle.druid_segment_file.specs.declared.fault.FileFault.{FileFault}
use Rattle.druid_segment_file.specs.declared.fault.FileFault.TheVariants.{Field}
use Rattle.druid_segment_file.specs.ColumnBytes.{Coded}
use Rattle.druid_segment_file.specs.Parts.{number_at, signed_at, at_most, accepted, text_at, each_at, descriptor_at, fields_at, row_count_at, row_time_at, Shape, shape_of}

-- ---- A dimension

-- whether the text stands above the one before it, by their bytes
abbrev pub is_above : Option (List ℕ) → List ℕ → Bool
is_above None text = true
is_above (Some last) text = is_lt (slice_cmp nat_cmp last text)

-- a text of a dictionary, after that one
unfoldable pub value_text_at : FileFault → Option (List ℕ) → List ℕ → Result (List ℕ × List ℕ) FileFault
value_text_at short last bytes = do
  text ← text_at short bytes
  value ← accepted (is_above last) text.0
  Ok (value, text.1)

-- that many texts, rising by their bytes
unfoldable pub value_texts_at : FileFault → ℕ → Option (List ℕ) → List ℕ → Result (List (List ℕ) × List ℕ) FileFault
value_texts_at short zero last bytes = Ok ([], bytes)
value_texts_at short (suc n) last bytes = do
  text ← value_text_at short last bytes
  others ← value_texts_at short n (Some text.0) text.1
  Ok (text.0 ∷ others.0, others.1)

-- the code of null, or of one of so many texts
unfoldable pub code_at : FileFault → ℕ → List ℕ → Result (ℕ × List ℕ) FileFault
code_at short count bytes = do
  part ← number_at short w32 bytes
  code ← accepted (λ n. nat_le n count) part.0
  Ok (code, part.1)

-- whether each of so many texts has a row
abbrev pub have_rows : ℕ → List ℕ → Bool
have_rows zero codes = true
have_rows (suc k) codes = list_any (λ code. code == suc k) codes && have_rows k codes

-- a code for each row, so that each of so many texts has a row
unfoldable pub codes_at : FileFault → ℕ → ℕ → List ℕ → Result (List ℕ × List ℕ) FileFault
codes_at short count rows bytes = do
  part ← each_at (code_at short count) rows bytes
  codes ← accepted (have_rows count) part.0
  Ok (codes, part.1)

-- so many texts, and the codes of so many rows
unfoldable pub coded_at : FileFault → ℕ → ℕ → List ℕ → Result (Coded × List ℕ) FileFault
coded_at short count rows bytes = do
  texts ← value_texts_at short count None bytes
  codes ← codes_at short count rows texts.1
  Ok (record { texts = texts.0; codes = codes.0 }, codes.1)

-- a dimension of so many rows. It has no more texts than rows
unfoldable pub dimension_at : FileFault → ℕ → List ℕ → Result (Coded × List ℕ) FileFault
dimension_at short rows bytes = do
  part ← number_at short w32 bytes
  count ← at_most rows part.0
  coded_at short count rows part.1

-- ---- A metric

-- whether a row has a number
unfoldable pub mark_at : FileFault → List ℕ → Result (Bool × List ℕ) FileFault
mark_at short [] = Err short
mark_at short (zero ∷ rest) = Ok (false, rest)
mark_at short (suc zero ∷ rest) = Ok (true, rest)
mark_at short (suc (suc mark) ∷ rest) = Err Field

-- the numbers of the rows that have one
unfoldable pub present_at : FileFault → List Bool → List ℕ → Result (List (Option ℤ) × List ℕ) FileFault
present_at short [] bytes = Ok ([], bytes)
present_at short (false ∷ marks) bytes = do
  others ← present_at short marks bytes
  Ok (None ∷ others.0, others.1)
present_at short (true ∷ marks) bytes = do
  number ← signed_at short bytes
  others ← present_at short marks number.1
  Ok (Some number.0 ∷ others.0, others.1)

-- a metric of so many rows: the marks, and then the numbers
unfoldable pub metric_at : FileFault → ℕ → List ℕ → Result (List (Option ℤ) × List ℕ) FileFault
metric_at short rows bytes = do
  marks ← each_at (mark_at short) rows bytes
  present_at short marks.0 marks.1

-- ---- The columns

-- the instants of the rows, and the values of each dimension and of each metric
pub record Columns : Type 0 where
  pub times : List ℕ
  pub dimensions : List Coded
  pub metrics : List (List (Option ℤ))

unfoldable pub columns_at : FileFault → Shape → ℕ → List ℕ → Result (Columns × List ℕ) FileFault
columns_at short shape rows bytes = do
  times ← each_at (row_time_at short shape.interval) rows bytes
  dimensions ← each_at (dimension_at short rows) shape.dimensions times.1
  metrics ← each_at (metric_at short rows) shape.metrics dimensions.1
  Ok (record { times = times.0; dimensions = dimensions.0; metrics = metrics.0 }, metrics.1)

-- the value of each row
abbrev pub decoded : Coded → List (Option (List ℕ))
decoded coded = map (value_at coded.texts) coded.codes

-- the rows of these columns
abbrev pub rows_of : Columns → List Row
rows_of columns = rows_in columns.times (map decoded columns.dimensions) columns.metrics

-- a segment whose text is no longer than a segment's may be
unfoldable pub of_length : Segment → Result Segment FileFault
of_length segment = do
  len ← at_most max_text (text_length segment)
  Ok segment

-- the content by columns, after the name of the layout
unfoldable pub column_content_at : FileFault → List ℕ → Result (Segment × List ℕ) FileFault
column_content_at short bytes = do
  descriptor ← descriptor_at short bytes
  fields ← fields_at short descriptor.1
  count ← row_count_at short fields.1
  columns ← columns_at short (shape_of descriptor.0 fields.0) count.0 count.1
  segment ← of_length (segment_of descriptor.0 fields.0 (rows_of columns.0))
  Ok (segment, columns.1)
