-- The rows of a segment.
use Rattle.std.specs.Prelude.{◌≡◌, ℕ, ℤ, ◌≤◌, List, [], ◌++◌, length, map, All, Option, IfSome, string_bytes, String}
use Rattle.std.specs.Global.{Global}
use Rattle.druid_time.specs.Extent.{Extent, Has}
pub use Rattle.druid_filter.specs.Values.{texts_by, nullable_texts_of, AreWords}
use Rattle.druid_segment_rows.specs.Names.{IsFieldName}
use Rattle.druid_base.specs.Distinct.{AreDistinct}

-- the names of the dimensions and of the metrics that each row has a value for, in order
pub record Schema : Type 0 where
  pub dimensions : List (List ℕ)
  pub metrics : List (List ℕ)

-- a row: its instant, a text or null for each dimension, and a number or null for each metric
pub record Row : Type 0 where
  pub time : ℕ
  pub dimensions : List (Option (List ℕ))
  pub metrics : List (Option ℤ)

-- each name is a field name, and all are distinct, dimensions and metrics together
pub record IsSchema (fields : Schema) : Type 0 where
  pub dimensions : All IsFieldName fields.dimensions
  pub metrics : All IsFieldName fields.metrics
  pub distinct : AreDistinct (fields.dimensions ++ fields.metrics)

-- a value for each field
pub record HasShape (fields : Schema) (row : Row) : Type 0 where
  pub dimensions : length row.dimensions ≡ length fields.dimensions
  pub metrics : length row.metrics ≡ length fields.metrics

-- its instant lies in the interval
abbrev pub IsInside : Extent → Row → Type 0
IsInside interval row = Has interval row.time

-- the most bytes of the value of a dimension
abbrev pub max_value : ℕ
max_value = 1024

-- no text is longer than the value of a dimension may be
abbrev pub AreShort : List (Option (List ℕ)) → Type 0
AreShort values = All (λ value. IfSome value (λ text. length text ≤ max_value)) values

-- no value of a dimension is longer
abbrev pub HasShortValues : Row → Type 0
HasShortValues row = AreShort row.dimensions

-- each value of a metric is
abbrev pub HasWords : Row → Type 0
HasWords row = AreWords row.metrics

-- a row without any value
abbrev pub no_row : Row
no_row = record { time = 0; dimensions = []; metrics = [] }

-- the bytes of texts
abbrev pub texts_of : List (String Global) → List (List ℕ)
texts_of texts = map string_bytes texts

-- the row of these parts
abbrev pub row_of : ℕ → List (Option (List ℕ)) → List (Option ℤ) → Row
row_of time dimensions metrics = record { time = time; dimensions = dimensions; metrics = metrics }
