-- A table of rows, one row more, one value more of each column.
use Rattle.std.specs.Prelude.{◌≡◌, ℕ, ℤ, List, [], ◌∷◌, ◌++◌, length, Option}
use Rattle.druid_segment_rows.specs.Rows.{Row}
use Rattle.druid_segment_rows.specs.Columns.{rows_in}

-- how many values of each kind each row has, and the rows
pub record Table : Type 0 where
  pub dimensions : ℕ
  pub metrics : ℕ
  pub rows : List Row

-- the row has that many values of each kind
pub record HasWidths (dimensions metrics : ℕ) (row : Row) : Type 0 where
  pub dimensions_are : length row.dimensions ≡ dimensions
  pub metrics_are : length row.metrics ≡ metrics

-- the table of these columns
abbrev pub table_of : List ℕ → List (List (Option (List ℕ))) → List (List (Option ℤ)) → Table
table_of times texts numbers =
    record { dimensions = length texts; metrics = length numbers; rows = rows_in times texts numbers }

-- the table with one more row at its end
abbrev pub with_one_more : Table → Row → Table
with_one_more table row = record {
  dimensions = table.dimensions;
  metrics = table.metrics;
  rows = table.rows ++ row ∷ [];
}

-- each column with a value more at its end
abbrev pub with_values : {X : Type 0} → List (List X) → List X → List (List X)
with_values [] values = []
with_values (column ∷ columns) [] = column ∷ columns
with_values (column ∷ columns) (value ∷ values) = (column ++ value ∷ []) ∷ with_values columns values
