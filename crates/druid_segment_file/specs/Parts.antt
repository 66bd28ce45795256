-- The parts of a segment file, read from left to right. A part that is read is a value and the bytes after it; `short` is
-- the fault where the bytes end in it.
use Rattle.std.specs.Prelude.{ℕ, ℤ, pos, negsuc, zero, suc, ◌+ℤ◌, Bool, false, ◌&&◌, not, List, [], ◌∷◌, ◌++◌, length, take, drop, Option, Some, None, ok_or, Result, Ok, Err, nat_lt, nat_le, if◌then◌else◌, bytes_eq}
use Rattle.std.specs.List.{list_any}
use Rattle.std.specs.Int.{Width, w16, w32, w64, byte_len, from_be_bytes, cast_signed}
use Rattle.std.specs.Str.{is_utf8}
use Rattle.druid_time.specs.Extent.{Extent}
use Rattle.druid_time.specs.Instant.{instant_count, unix_epoch}
use Rattle.druid_segment_id.specs.Names.{max_name, is_name, max_version, is_version}
use Rattle.druid_segment_descriptor.specs.Described.{Described, max_core}
use Rattle.druid_segment_rows.specs.Names.{is_field_name, max_field_name}
use Rattle.druid_segment_rows.specs.Rows.{Schema, Row, max_value}
use Rattle.druid_segment_rows.specs.Segment.{max_fields, max_rows}
use Rattle.druid_time.specs.Results.{◌>>=◌}
use Rattle.druid_segment_file.specs.declared.fault.FileFault.{FileFault}
use Rattle.druid_segment_file.specs.declared.fault.FileFault.TheVariants.{Field, RowOutside, TooLong}

-- the next n bytes
unfoldable pub bytes_at : FileFault → ℕ → List ℕ → Result (List ℕ × List ℕ) FileFault
bytes_at short n bytes = if nat_lt (length bytes) n then Err short else Ok (take n bytes, drop n bytes)

-- the next byte
unfoldable pub byte_at : FileFault → List ℕ → Result (ℕ × List ℕ) FileFault
byte_at short [] = Err short
byte_at short (byte ∷ rest) = Ok (byte, rest)

unfoldable pub number_at : FileFault → Width → List ℕ → Result (ℕ × List ℕ) FileFault
number_at short width bytes = do
  part ← bytes_at short (byte_len width) bytes
  Ok (from_be_bytes width part.0, part.1)

unfoldable pub signed_at : FileFault → List ℕ → Result (ℤ × List ℕ) FileFault
signed_at short bytes = do
  part ← number_at short w64 bytes
  Ok (cast_signed w64 part.0, part.1)

-- a number that may be a count or a length only up to that limit
unfoldable pub at_most : ℕ → ℕ → Result ℕ FileFault
at_most limit n = if nat_lt limit n then Err TooLong else Ok n

-- a value that a test accepts
unfoldable pub accepted : {A : Type 0} → (A → Bool) → A → Result A FileFault
accepted test value = if test value then Ok value else Err Field

-- a text after its length, which is one byte
unfoldable pub short_text_at : FileFault → ℕ → List ℕ → Result (List ℕ × List ℕ) FileFault
short_text_at short limit bytes = do
  part ← byte_at short bytes
  len ← at_most limit part.0
  bytes_at short len part.1

-- a text after its length, which is two bytes
unfoldable pub text_at : FileFault → List ℕ → Result (List ℕ × List ℕ) FileFault
text_at short bytes = do
  part ← number_at short w16 bytes
  len ← at_most max_value part.0
  text ← bytes_at short len part.1
  value ← accepted is_utf8 text.0
  Ok (value, text.1)

-- that many parts of one kind
unfoldable pub each_at : {A : Type 0} → (List ℕ → Result (A × List ℕ) FileFault) → ℕ → List ℕ → Result (List A × List ℕ) FileFault
each_at read zero bytes = Ok ([], bytes)
each_at read (suc n) bytes = do
  first ← read bytes
  others ← each_at read n first.1
  Ok (first.0 ∷ others.0, others.1)

-- ---- The descriptor

-- the instant counted from the first one, if it is one
abbrev pub instant_from_first : ℤ → Option ℕ
instant_from_first (pos t) = if nat_lt t instant_count then Some t else None
instant_from_first (negsuc n) = None

-- the instant that many milliseconds after the start of 1970, if it is one
unfoldable pub instant_of : ℤ → Option ℕ
instant_of ms = instant_from_first (ms +ℤ pos unix_epoch)

unfoldable pub moment_at : FileFault → List ℕ → Result (ℕ × List ℕ) FileFault
moment_at short bytes = do
  ms ← signed_at short bytes
  moment ← ok_or (instant_of ms.0) Field
  Ok (moment, ms.1)

unfoldable pub interval_at : FileFault → List ℕ → Result (Extent × List ℕ) FileFault
interval_at short bytes = do
  start ← moment_at short bytes
  end ← moment_at short start.1
  if nat_lt start.0 end.0 then Ok (record { start = start.0; end = end.0 }, end.1) else Err Field

unfoldable pub name_at : FileFault → List ℕ → Result (List ℕ × List ℕ) FileFault
name_at short bytes = do
  text ← short_text_at short max_name bytes
  name ← accepted is_name text.0
  Ok (name, text.1)

unfoldable pub version_at : FileFault → List ℕ → Result (List ℕ × List ℕ) FileFault
version_at short bytes = do
  text ← short_text_at short max_version bytes
  version ← accepted is_version text.0
  Ok (version, text.1)

-- the number of core partitions
unfoldable pub core_at : FileFault → List ℕ → Result (ℕ × List ℕ) FileFault
core_at short bytes = do
  part ← number_at short w16 bytes
  core ← accepted (λ n. nat_le n max_core) part.0
  Ok (core, part.1)

unfoldable pub descriptor_at : FileFault → List ℕ → Result (Described × List ℕ) FileFault
descriptor_at short bytes = do
  source ← name_at short bytes
  interval ← interval_at short source.1
  version ← version_at short interval.1
  partition ← number_at short w16 version.1
  core ← core_at short partition.1
  size ← number_at short w64 core.1
  Ok (
    record {
      id = record { source = source.0; interval = interval.0; version = version.0; partition = partition.0 };
      core = core.0;
      size = size.0;
      tombstone = false;
    },
    size.1,
  )

-- ---- The names of the fields

-- a field name that is none of those before it
abbrev pub is_new_name : List (List ℕ) → List ℕ → Bool
is_new_name before name = is_field_name name && not (list_any (bytes_eq name) before)

unfoldable pub field_name_at : FileFault → List (List ℕ) → List ℕ → Result (List ℕ × List ℕ) FileFault
field_name_at short before bytes = do
  text ← short_text_at short max_field_name bytes
  name ← accepted (is_new_name before) text.0
  Ok (name, text.1)

-- that many names
unfoldable pub field_names_at : FileFault → ℕ → List (List ℕ) → List ℕ → Result (List (List ℕ) × List ℕ) FileFault
field_names_at short zero before bytes = Ok ([], bytes)
field_names_at short (suc n) before bytes = do
  name ← field_name_at short before bytes
  others ← field_names_at short n (before ++ name.0 ∷ []) name.1
  Ok (name.0 ∷ others.0, others.1)

-- the names of the dimensions, or of the metrics, after their number, which is one byte
unfoldable pub names_at : FileFault → List (List ℕ) → List ℕ → Result (List (List ℕ) × List ℕ) FileFault
names_at short before bytes = do
  part ← byte_at short bytes
  count ← at_most max_fields part.0
  field_names_at short count before part.1

unfoldable pub fields_at : FileFault → List ℕ → Result (Schema × List ℕ) FileFault
fields_at short bytes = do
  dimensions ← names_at short [] bytes
  metrics ← names_at short dimensions.0 dimensions.1
  Ok (record { dimensions = dimensions.0; metrics = metrics.0 }, metrics.1)

-- ---- The rows

-- the instant, if it lies in the interval
abbrev pub instant_in : Extent → Option ℕ → Option ℕ
instant_in interval None = None
instant_in interval (Some t) = if nat_le interval.start t && nat_lt t interval.end then Some t else None

unfoldable pub row_time_at : FileFault → Extent → List ℕ → Result (ℕ × List ℕ) FileFault
row_time_at short interval bytes = do
  ms ← signed_at short bytes
  time ← ok_or (instant_in interval (instant_of ms.0)) RowOutside
  Ok (time, ms.1)

-- a mark, and after 1 a text
unfoldable pub text_value_at : FileFault → List ℕ → Result (Option (List ℕ) × List ℕ) FileFault
text_value_at short [] = Err short
text_value_at short (zero ∷ rest) = Ok (None, rest)
text_value_at short (suc zero ∷ rest) = do
  text ← text_at short rest
  Ok (Some text.0, text.1)
text_value_at short (suc (suc mark) ∷ rest) = Err Field

-- a mark, and after 1 a number
unfoldable pub number_value_at : FileFault → List ℕ → Result (Option ℤ × List ℕ) FileFault
number_value_at short [] = Err short
number_value_at short (zero ∷ rest) = Ok (None, rest)
number_value_at short (suc zero ∷ rest) = do
  number ← signed_at short rest
  Ok (Some number.0, number.1)
number_value_at short (suc (suc mark) ∷ rest) = Err Field

-- how a row is read: the interval that it lies in, and how many dimensions and metrics it has
pub record Shape : Type 0 where
  pub interval : Extent
  pub dimensions : ℕ
  pub metrics : ℕ

-- how the rows of a segment are read
abbrev pub shape_of : Described → Schema → Shape
shape_of descriptor fields = record {
  interval = descriptor.id.interval;
  dimensions = length fields.dimensions;
  metrics = length fields.metrics;
}

unfoldable pub values_at : FileFault → Shape → List ℕ → Result (Row × List ℕ) FileFault
values_at short shape bytes = do
  time ← row_time_at short shape.interval bytes
  dimensions ← each_at (text_value_at short) shape.dimensions time.1
  metrics ← each_at (number_value_at short) shape.metrics dimensions.1
  Ok (record { time = time.0; dimensions = dimensions.0; metrics = metrics.0 }, metrics.1)

-- how many rows there are, in four bytes
unfoldable pub row_count_at : FileFault → List ℕ → Result (ℕ × List ℕ) FileFault
row_count_at short bytes = do
  part ← number_at short w32 bytes
  count ← at_most max_rows part.0
  Ok (count, part.1)

-- the rows after their number
unfoldable pub rows_at : FileFault → Shape → List ℕ → Result (List Row × List ℕ) FileFault
rows_at short shape bytes = do
  part ← number_at short w32 bytes
  count ← at_most max_rows part.0
  each_at (values_at short shape) count part.1
