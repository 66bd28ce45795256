-- Rows by columns, and the values of a dimension by a dictionary: each text once, and a code for each row.
use Rattle.std.specs.Prelude.{◌≡◌, ◌↔◌, ℕ, ℤ, zero, suc, ◌≤◌, List, length, map, slice_get, slice_index_or, All, Contains, Option, None, Some}
use Rattle.std.specs.List.{range_with_len}
use Rattle.std.specs.Ordering.{nat_cmp}
use Rattle.std.specs.Cmp.Lexicographic.{slice_cmp}
use Rattle.std.specs.List.Sorted.{IsStrictlySortedBy}
use Rattle.druid_segment_rows.specs.Rows.{Row, row_of}

-- the value of each row for the dimension at that place; null where it has none
abbrev pub column : ℕ → List Row → List (Option (List ℕ))
column place rows = map (λ row. slice_index_or row.dimensions place None) rows

-- the texts that occur among the values, each once, rising by their bytes
pub record IsDictionary (values : List (Option (List ℕ))) (texts : List (List ℕ)) : Type 0 where
  pub rising : IsStrictlySortedBy (slice_cmp nat_cmp) texts
  pub occur : (text : List ℕ) → Contains texts text ↔ Contains values (Some text)

-- what a code stands for: null for 0, and the k-th text for k
abbrev pub value_at : List (List ℕ) → ℕ → Option (List ℕ)
value_at texts zero = None
value_at texts (suc k) = slice_get texts k

-- a code for each value
pub record AreCodes (texts : List (List ℕ)) (values : List (Option (List ℕ))) (codes : List ℕ) : Type 0 where
  pub stand : map (value_at texts) codes ≡ values
  pub bounded : All (λ code. code ≤ length texts) codes

-- what each column has at that place
abbrev pub across : {X : Type 0} → List (List (Option X)) → ℕ → List (Option X)
across columns place = map (λ column. slice_index_or column place None) columns

-- a row for each instant: at each place what each column has there
abbrev pub rows_in : List ℕ → List (List (Option (List ℕ))) → List (List (Option ℤ)) → List Row
rows_in times texts numbers =
    map (λ place. row_of (slice_index_or times place 0) (across texts place) (across numbers place)) (range_with_len 0 (length times))

-- each column has that many values
abbrev pub AreLong : {X : Type 0} → ℕ → List (List X) → Type 0
AreLong rows columns = All (λ column. length column ≡ rows) columns
