-- The bytes of a segment in the layout `DSG1`. Numbers are big-endian, signed ones in two's complement.
use Rattle.std.specs.Prelude.{ℕ, ℤ, List, [], ◌∷◌, ◌++◌, length, All, Option, None, Some, IfSome, codes, FitsSigned}
use Rattle.std.specs.List.{flat_map}
use Rattle.std.specs.Int.{w16, w32, w64, to_be_bytes, cast_unsigned}
use Rattle.std.specs.Str.{IsUtf8}
use Rattle.druid_time.specs.Extent.{Extent}
use Rattle.druid_time.specs.Instant.{unix_ms}
use Rattle.druid_segment_descriptor.specs.Described.{Described, IsDescribed}
use Rattle.druid_segment_rows.specs.Rows.{Row}
use Rattle.druid_segment_rows.specs.Segment.{Segment}

-- what a file begins with
abbrev pub magic : List ℕ
magic = codes "DSG1"

abbrev pub number : ℤ → List ℕ
number n = to_be_bytes w64 (cast_unsigned w64 n)

-- the milliseconds since 1970
abbrev pub instant : ℕ → List ℕ
instant time = number (unix_ms time)

abbrev pub interval : Extent → List ℕ
interval extent = instant extent.start ++ instant extent.end

-- a name or a version: its length in one byte, and its bytes
abbrev pub short_text : List ℕ → List ℕ
short_text text = length text ∷ text

-- how many names there are, in one byte, and the names
abbrev pub names : List (List ℕ) → List ℕ
names texts = length texts ∷ flat_map short_text texts

abbrev pub descriptor : Described → List ℕ
descriptor d =
    short_text d.id.source ++ interval d.id.interval ++ short_text d.id.version
    ++ to_be_bytes w16 d.id.partition ++ to_be_bytes w16 d.core ++ to_be_bytes w64 d.size

-- 0 for null, and else 1, the length in two bytes, and the bytes
abbrev pub text_value : Option (List ℕ) → List ℕ
text_value None = 0 ∷ []
text_value (Some text) = 1 ∷ to_be_bytes w16 (length text) ++ text

-- 0 for null, and else 1 and the number
abbrev pub number_value : Option ℤ → List ℕ
number_value None = 0 ∷ []
number_value (Some n) = 1 ∷ number n

-- a row: its instant, and its values
abbrev pub row : Row → List ℕ
row values = instant values.time ++ flat_map text_value values.dimensions ++ flat_map number_value values.metrics

-- how many rows there are, in four bytes, and the rows
abbrev pub rows : List Row → List ℕ
rows all = to_be_bytes w32 (length all) ++ flat_map row all

-- the one spelling of a segment
abbrev pub spelling : Segment → List ℕ
spelling segment =
    magic ++ descriptor segment.descriptor ++ names segment.fields.dimensions ++ names segment.fields.metrics
    ++ rows segment.rows

-- its texts are UTF-8 and its numbers fit 64 bits, as those of each value of the types of rows
pub record AreValues (values : Row) : Type 0 where
  pub texts : All (λ value. IfSome value IsUtf8) values.dimensions
  pub numbers : All (λ value. IfSome value (FitsSigned w64)) values.metrics

-- what is announced is well formed, and so is each value
pub record Fits (segment : Segment) : Type 0 where
  pub descriptor : IsDescribed segment.descriptor
  pub rows : All AreValues segment.rows
