-- What a query tells of rows: one group for each bucket and values of its dimensions that occur, with the aggregates over
-- all rows of the group at once. A row by itself tells a group too, and a group stands for all its rows in a merge.
use Rattle.std.specs.Prelude.{◌≡◌, ℕ, ℤ, pos, ◌+ℤ◌, ◌≤ℤ◌, List, [], ◌∷◌, ◌++◌, length, map, filter, slice_get, slice_index_or, All, Contains, Option, Some, None}
use Rattle.std.specs.Int.{int_wrap}
use Rattle.std.specs.Int.{w64}
use Rattle.std.specs.List.Sorted.{IsStrictlySortedBy}
use Rattle.std.specs.Option.{option_cmp}
use Rattle.std.specs.declared.cmp.Ordering.{Ordering}
use Rattle.std.specs.Ordering.{nat_cmp, then_cmp, is_eq}
use Rattle.std.specs.Cmp.Lexicographic.{slice_cmp}
pub use Rattle.druid_filter.specs.Values.{AreWords}
use Rattle.druid_query.specs.declared.aggregator.AggregatorKind.{AggregatorKind}
use Rattle.druid_query.specs.declared.aggregator.AggregatorKind.TheVariants.{Count, LongSum, LongMin, LongMax}

-- where a row stands in a result: its bucket, and its values of the query's dimensions
pub record Key : Type 0 where
  pub bucket : ℕ
  pub values : List (Option (List ℕ))

-- a key, and a number or null for each aggregator: of a row what each aggregator takes of it, of more rows what it tells of
-- all of them
pub record Group : Type 0 where
  pub key : Key
  pub numbers : List (Option ℤ)

-- ---- the order of a result

-- null first, then by bytes
abbrev pub value_cmp : Option (List ℕ) → Option (List ℕ) → Ordering
value_cmp = option_cmp (slice_cmp nat_cmp)

abbrev pub bucket_cmp : Key → Key → Ordering
bucket_cmp a b = nat_cmp a.bucket b.bucket

abbrev pub values_cmp : Key → Key → Ordering
values_cmp a b = slice_cmp value_cmp a.values b.values

-- by bucket, then by the values in their order
abbrev pub key_cmp : Key → Key → Ordering
key_cmp = then_cmp bucket_cmp values_cmp

abbrev pub key_of : Group → Key
key_of g = g.key

-- each key is after the one before
abbrev pub InOrder : List Group → Type 0
InOrder groups = IsStrictlySortedBy key_cmp (map key_of groups)

-- ---- aggregates

-- the numbers that are there
abbrev pub known : List (Option ℤ) → List ℤ
known [] = []
known (None ∷ xs) = known xs
known (Some x ∷ xs) = x ∷ known xs

-- the sum, of any size
abbrev pub total : List ℤ → ℤ
total [] = pos 0
total (x ∷ xs) = x +ℤ total xs

-- the least of them
pub record IsLeast (xs : List ℤ) (least : ℤ) : Type 0 where
  pub one : Contains xs least
  pub below : All (λ x. least ≤ℤ x) xs

-- the greatest of them
pub record IsGreatest (xs : List ℤ) (greatest : ℤ) : Type 0 where
  pub one : Contains xs greatest
  pub above : All (λ x. x ≤ℤ greatest) xs

-- what an aggregator tells of these numbers, one at least. A sum is wrapped to 64 bits once, at its end. To count is to add
-- the 1 that each row tells
abbrev pub IsReported : AggregatorKind → List ℤ → ℤ → Type 0
IsReported Count xs reported = reported ≡ int_wrap w64 (total xs)
IsReported LongSum xs reported = reported ≡ int_wrap w64 (total xs)
IsReported LongMin xs reported = IsLeast xs reported
IsReported LongMax xs reported = IsGreatest xs reported

-- the same where there may be none, of which it tells null
abbrev pub IsAggregate : AggregatorKind → List ℤ → Option ℤ → Type 0
IsAggregate kind [] reported = reported ≡ None
IsAggregate kind (x ∷ xs) reported = (number : ℤ) × (reported ≡ Some number) × IsReported kind (x ∷ xs) number

-- ---- results

-- the number at a place of a group; null where it has none
abbrev pub number_at : ℕ → Group → Option ℤ
number_at place g = slice_index_or g.numbers place None

-- the numbers at a place of the groups with that key
abbrev pub column : Key → ℕ → List Group → List (Option ℤ)
column key place rows = map (number_at place) (filter (λ g. is_eq (key_cmp key g.key)) rows)

-- one of them has the key
abbrev pub Occurs : Key → List Group → Type 0
Occurs key groups = (g : Group) × Contains groups g × (g.key ≡ key)

-- a key that occurs among the rows, with the aggregates over all rows of that key at once
pub record IsGroupOf (kinds : List AggregatorKind) (rows : List Group) (g : Group) : Type 0 where
  pub occurs : Occurs g.key rows
  pub one_each : length g.numbers ≡ length kinds
  pub aggregates : (place : ℕ) (kind : AggregatorKind) → slice_get kinds place ≡ Some kind
      → IsAggregate kind (known (column g.key place rows)) (number_at place g)

-- the groups are the result over these rows: in order, one for each key that occurs
pub record IsResult (kinds : List AggregatorKind) (rows groups : List Group) : Type 0 where
  pub ordered : InOrder groups
  pub each : (g : Group) → Contains groups g → IsGroupOf kinds rows g
  pub whole : (row : Group) → Contains rows row → Occurs row.key groups

-- a merge of two results: the keys of both, each with the aggregates over what both tell there
abbrev pub IsMerge : List AggregatorKind → List Group → List Group → List Group → Type 0
IsMerge kinds a b both = IsResult kinds (a ++ b) both
