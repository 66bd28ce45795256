-- Groups of one bucket in an array, each at the number that the codes of its values make. Only proofs and private functions use
-- this: what it means is in Groups.
use Rattle.std.specs.Prelude.{◌≡◌, ℕ, ◌+◌, ◌*◌, ◌<◌, ℤ, pos, List, [], ◌∷◌, length, map, take, drop, slice_index_or, Bool, true, false, Option, Some, None, IfSome, option_map, Vec, ⊤}
use Rattle.std.specs.Global.{Global}
use Rattle.std.specs.Ordering.{nat_cmp}
use Rattle.std.specs.List.Sorted.{IsStrictlySortedBy}
use Rattle.std.specs.Map.{keys_of, lookup, set_value}
use Rattle.std.specs.BTreeMap.{insert_entry, is_at}
use Rattle.druid_segment_rows.specs.Segment.{Segment, row_at}
use Rattle.druid_partial.specs.Groups.{value_cmp}
use Rattle.druid_partial_scan.specs.Places.{at_place}
use Rattle.druid_query.specs.declared.aggregator.AggregatorKind.{AggregatorKind}
use Rattle.druid_partial.specs.Joined.{joined, join_numbers}
use Rattle.druid_partial_scan.specs.declared.cells.NumberColumn.{NumberColumn}
use Rattle.druid_partial_scan.specs.declared.cells.NumberColumn.TheVariants as numbers

-- the codes of a dimension: how many there may be, and that of each row; where there are none, all rows have code 0
pub record Column : Type 0 where
  pub size : ℕ
  pub codes : Option (List ℕ)

-- the code that stands for one: by a table, where there is one
abbrev pub look : Option (Vec ℕ Global) → ℕ → ℕ
look None code = code
look (Some table) code = slice_index_or table.items code 0

abbrev pub code_in : Option (List ℕ) → ℕ → ℕ
code_in None row = 0
code_in (Some codes) row = slice_index_or codes row 0

abbrev pub code_at : Column → ℕ → ℕ
code_at c row = code_in c.codes row

-- the row has a code there, below the size
pub record HasCode (row : ℕ) (c : Column) : Type 0 where
  pub there : IfSome c.codes (λ codes. row < length codes)
  pub below : code_at c row < c.size

-- it has the codes of the dimension at that place: for each row one, in the order of their values
pub record IsColumn (segment : Segment) (place : Option ℕ) (c : Column) : Type 0 where
  pub has : (row : ℕ) → row < length segment.rows → HasCode row c
  pub order : (a b : ℕ) → a < length segment.rows → b < length segment.rows
      → value_cmp (at_place (row_at segment a).dimensions place) (at_place (row_at segment b).dimensions place) ≡ nat_cmp (code_at c a) (code_at c b)

-- one for each place
abbrev pub AreColumns : Segment → List (Option ℕ) → List Column → Type 0
AreColumns segment [] [] = ⊤
AreColumns segment [] (c ∷ cs) = ⊥
AreColumns segment (p ∷ ps) [] = ⊥
AreColumns segment (p ∷ ps) (c ∷ cs) = IsColumn segment p c × AreColumns segment ps cs

-- the number that the codes of a row make, after that of the codes before
abbrev pub cell_from : List Column → ℕ → ℕ → ℕ
cell_from [] row n = n
cell_from (c ∷ cs) row n = cell_from cs row (n * c.size + code_at c row)

-- how many such numbers there are
abbrev pub room_from : List Column → ℕ → ℕ
room_from [] n = n
room_from (c ∷ cs) n = room_from cs (n * c.size)

-- what the array has at a number: a row of the group, and what the aggregators tell of its rows so far
pub record Cell : Type 0 where
  pub row : ℕ
  pub numbers : List (Option ℤ)

-- a row's numbers, joined to those that are there, place by place, as far as there are two of a kind
abbrev pub join_into : List AggregatorKind → List (Option ℤ) → List (Option ℤ) → List (Option ℤ)
join_into [] xs ys = ys
join_into (kind ∷ kinds) [] ys = ys
join_into (kind ∷ kinds) (x ∷ xs) [] = []
join_into (kind ∷ kinds) (x ∷ xs) (y ∷ ys) = joined kind x y ∷ join_into kinds xs ys

-- the number that an aggregator takes of a row
abbrev pub number_from : ℕ → NumberColumn → Option ℤ
number_from row numbers.One = Some (pos 1)
number_from row numbers.Null = None
number_from row (numbers.Metric of) = slice_index_or of.now row None

-- there is one for the row
abbrev pub HasNumber : ℕ → NumberColumn → Type 0
HasNumber row numbers.One = ⊤
HasNumber row numbers.Null = ⊤
HasNumber row (numbers.Metric of) = row < length of.now

-- a cell with a row more
abbrev pub with_row : List AggregatorKind → ℕ → List (Option ℤ) → Option Cell → Cell
with_row kinds row numbers None = record { row = row; numbers = numbers }
with_row kinds row numbers (Some c) = record { row = c.row; numbers = join_into kinds numbers c.numbers }

-- ---- groups in an array

-- what is kept once of a group, and its numbers
abbrev pub Filled : Type 0 → Type 0
Filled K = K × List (Option ℤ)

-- how many numbers each group has, and the groups that are there
pub record Cells (K : Type 0) : Type 0 where
  pub width : ℕ
  pub groups : List (Option (Filled K))

-- the groups whose numbers stand one after another
abbrev pub groups_from : {K : Type 0} → ℕ → List (Option K) → List (Option ℤ) → List (Option (Filled K))
groups_from width [] numbers = []
groups_from width (kept ∷ more) numbers = option_map (λ k. (k, take width numbers)) kept ∷ groups_from width more (drop width numbers)

abbrev pub is_there : {X : Type 0} → Option X → Bool
is_there None = false
is_there (Some x) = true

-- a mark for each cell, and numbers for each
pub record AreParts {K : Type 0} (width : ℕ) (filled : List Bool) (kept : List (Option K)) (numbers : List (Option ℤ)) : Type 0 where
  pub marks : filled ≡ map is_there kept
  pub long : length numbers ≡ length kept * width

-- a group with a row's numbers joined
abbrev pub joined_with : {K : Type 0} → List AggregatorKind → List (Option ℤ) → Option (Filled K) → Option (Filled K)
joined_with kinds numbers old = option_map (λ g. (g.0, join_into kinds numbers g.1)) old

-- a group with a row more, or that of the row alone
abbrev pub filled_with : {K : Type 0} → List AggregatorKind → K → List (Option ℤ) → Option (Filled K) → Filled K
filled_with kinds kept numbers None = (kept, numbers)
filled_with kinds kept numbers (Some g) = (g.0, join_into kinds numbers g.1)

-- two groups of one cell as one, which is kept as the first was; one alone as it is
abbrev pub joined_cell : {K : Type 0} → List AggregatorKind → Option (Filled K) → Option (Filled K) → Option (Filled K)
joined_cell kinds None theirs = theirs
joined_cell kinds (Some g) None = Some g
joined_cell kinds (Some g) (Some h) = Some (g.0, join_numbers kinds g.1 h.1)

-- the same cell by cell, as far as the second array goes
abbrev pub joined_cells : {K : Type 0} → List AggregatorKind → List (Option (Filled K)) → List (Option (Filled K)) → List (Option (Filled K))
joined_cells kinds [] ys = []
joined_cells kinds (x ∷ xs) [] = x ∷ xs
joined_cells kinds (x ∷ xs) (y ∷ ys) = joined_cell kinds x y ∷ joined_cells kinds xs ys

-- where a row of each group is kept
abbrev pub cell_of : Filled ℕ → Cell
cell_of g = record { row = g.0; numbers = g.1 }

abbrev pub cells_in : List (Option (Filled ℕ)) → List (Option Cell)
cells_in groups = map (option_map cell_of) groups

-- ---- cells by their numbers

-- a row more in the cell of that number, if it is there; else a cell more
abbrev pub entered_at : List AggregatorKind → ℕ → List (Option ℤ) → ℕ → List (ℕ × Cell) → Option Cell → List (ℕ × Cell)
entered_at kinds row numbers cell entries None = insert_entry nat_cmp entries cell (with_row kinds row numbers None)
entered_at kinds row numbers cell entries (Some c) = set_value (is_at (nat_cmp cell)) entries (with_row kinds row numbers (Some c))

-- the entries of a map, before and after
pub record IsEntered (kinds : List AggregatorKind) (row : ℕ) (numbers : List (Option ℤ)) (cell : ℕ) (old new : List (ℕ × Cell)) : Type 0 where
  pub sorted : IsStrictlySortedBy nat_cmp (keys_of old)
  pub is : new ≡ entered_at kinds row numbers cell old (lookup (is_at (nat_cmp cell)) old)
