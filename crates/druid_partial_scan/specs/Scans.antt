-- A query over a segment, with where it looks. Only proofs and private functions use this: what it means is in Rows.
use Rattle.std.specs.Prelude.{◌≡◌, ◌<◌, ◌≤◌, ℕ, List, [], ◌∷◌, length, map, filter, take, slice_get, All, Contains, Option, Some, None, ⊤}
use Rattle.std.specs.declared.cmp.Ordering.TheVariants.{Less}
use Rattle.std.specs.List.{AllByRecursion}
use Rattle.druid_time.specs.Extent.{Extent}
use Rattle.druid_segment_rows.specs.Segment.{Segment, HaveWords, row_at}
use Rattle.druid_query.specs.Query.{Query}
use Rattle.druid_query.specs.declared.aggregator.AggregatorKind.{AggregatorKind}
use Rattle.druid_partial.specs.Groups.{Group, IsResult, key_cmp}
use Rattle.druid_partial.specs.Joined.{merged}
use Rattle.druid_partial.specs.Partials.{earliest, kinds_of, HasNumbers, IsGroupFor}
use Rattle.druid_partial_scan.specs.Rows.{passes_if, row_group, is_asked}
use Rattle.druid_partial_scan.specs.Places.{places_of, sources_of, source_number}
use Rattle.druid_filter.specs.Filters.{value_in}
use Rattle.druid_partial_scan.specs.CodeFilters.{judge_if}
use Rattle.druid_partial_scan.specs.Cells.{Column, Cell, Cells, AreColumns, HasNumber, number_from, cell_from}
use Rattle.druid_partial_scan.specs.declared.code_filter.CodeFilter.{CodeFilter}
use Rattle.druid_partial_scan.specs.declared.field_sources.NumberSource.{NumberSource}
use Rattle.druid_partial_scan.specs.declared.cells.NumberColumn.{NumberColumn}

pub record Scan : Type 0 where
  pub query : Query
  pub segment : Segment
  pub columns : List Column

-- the numbers of that source, of each row
pub record AreFrom (segment : Segment) (source : NumberSource) (numbers : NumberColumn) : Type 0 where
  pub has : (row : ℕ) → row < length segment.rows → HasNumber row numbers
  pub same : (row : ℕ) → row < length segment.rows → number_from row numbers ≡ source_number (row_at segment row) source

-- one for each source
abbrev pub AreNumbers : Segment → List NumberSource → List NumberColumn → Type 0
AreNumbers segment [] [] = ⊤
AreNumbers segment [] (n ∷ ns) = ⊥
AreNumbers segment (s ∷ ss) [] = ⊥
AreNumbers segment (s ∷ ss) (n ∷ ns) = AreFrom segment s n × AreNumbers segment ss ns

-- where it looks
pub record IsScan (query : Query) (segment : Segment) (times : List ℕ) (first : ℕ) (places : List (Option ℕ)) (columns : List Column) (numbers : List NumberColumn) (kinds : List AggregatorKind) (code_filter : Option CodeFilter) : Type 0 where
  pub words : HaveWords segment
  pub times_are : times ≡ map (λ row. row.time) segment.rows
  pub first_is : first ≡ earliest query.intervals
  pub places_are : places ≡ places_of query segment.fields
  pub columns_are : AreColumns segment (places_of query segment.fields) columns
  pub numbers_are : AreNumbers segment (sources_of query segment.fields) numbers
  pub kinds_are : kinds ≡ kinds_of query
  pub filter_is : (row : ℕ) → row < length segment.rows → judge_if code_filter row ≡ passes_if (value_in segment.fields.dimensions (row_at segment row).dimensions) query.filter

-- what the row at a place tells
abbrev pub counted_at : Scan → ℕ → Group
counted_at scan row = row_group scan.query scan.segment.fields (row_at scan.segment row)

-- the bucket of the row at a place
abbrev pub bucket_at : Scan → ℕ → ℕ
bucket_at scan row = (counted_at scan row).key.bucket

-- groups of a query that are the result over rows
pub record AreCounted (query : Query) (rows groups : List Group) : Type 0 where
  pub result : IsResult (kinds_of query) rows groups
  pub numbers : All (HasNumbers (kinds_of query)) groups
  pub each : All (IsGroupFor query) groups

-- what the rows before a place tell that are asked for
abbrev pub counted_upto : Query → Segment → Extent → ℕ → List Group
counted_upto query segment interval i = map (row_group query segment.fields) (filter (is_asked query interval segment.fields) (take i segment.rows))

-- these groups are the result over the rows before a place
abbrev pub AreUpto : Scan → Extent → ℕ → List Group → Type 0
AreUpto scan interval i groups = AreCounted scan.query (counted_upto scan.query scan.segment interval i) groups

-- each of these groups is before those of the rows from one place to another
abbrev pub ComeBefore : Scan → List Group → ℕ → ℕ → Type 0
ComeBefore scan groups from to =
    (row : ℕ) → from ≤ row → row < to → (g : Group) → Contains groups g → key_cmp g.key (counted_at scan row).key ≡ Less

-- the rows from one place to another have one bucket
abbrev pub HaveBucket : Scan → ℕ → ℕ → ℕ → Type 0
HaveBucket scan bucket from to = (row : ℕ) → from ≤ row → row < to → bucket_at scan row ≡ bucket

-- no row's bucket is below that of a row before it
abbrev pub BucketsRise : Scan → Type 0
BucketsRise scan = (i j : ℕ) → i ≤ j → j < length scan.segment.rows → bucket_at scan i ≤ bucket_at scan j

-- the rows from one place to a second have earlier buckets than those from there to a third
abbrev pub AreApart : Scan → ℕ → ℕ → ℕ → Type 0
AreApart scan start at end = (i j : ℕ) → start ≤ i → i < at → at ≤ j → j < end → bucket_at scan i < bucket_at scan j

-- so many cells, for groups of the query
pub record HasRoom {K : Type 0} (query : Query) (room : ℕ) (cells : Cells K) : Type 0 where
  pub width : cells.width ≡ length query.aggregations
  pub long : length cells.groups ≡ room

-- ---- groups of one bucket in an array

-- the number of a row's cell
abbrev pub cell_at : Scan → ℕ → ℕ
cell_at scan row = cell_from scan.columns row 0

-- the group in a cell has the key of its row
abbrev pub group_at : Scan → Cell → Group
group_at scan c = record { key = (counted_at scan c.row).key; numbers = c.numbers }

-- the groups that are there, in order
abbrev pub groups_in : Scan → List (Option Cell) → List Group
groups_in scan [] = []
groups_in scan (None ∷ cells) = groups_in scan cells
groups_in scan (Some c ∷ cells) = group_at scan c ∷ groups_in scan cells

-- a group of that bucket in its cell
pub record IsCell (scan : Scan) (bucket place : ℕ) (c : Cell) : Type 0 where
  pub inside : c.row < length scan.segment.rows
  pub bucket_is : bucket_at scan c.row ≡ bucket
  pub place_is : cell_at scan c.row ≡ place
  pub numbers : HasNumbers (kinds_of scan.query) (group_at scan c)

abbrev pub AreCells : Scan → ℕ → List (Option Cell) → Type 0
AreCells scan bucket cells = (place : ℕ) (c : Cell) → slice_get cells place ≡ Some (Some c) → IsCell scan bucket place c

-- a group in a cell, as it is handed out
abbrev pub IsKept : Scan → Option Cell → Type 0
IsKept scan None = ⊤
IsKept scan (Some c) = (c.row < length scan.segment.rows) × HasNumbers (kinds_of scan.query) (group_at scan c)

-- a row joined to the group of its cell
pub record IsJoined (scan : Scan) (row : ℕ) (old new : List (Option Cell)) : Type 0 where
  pub long : length new ≡ length old
  pub groups : (bucket : ℕ) → bucket_at scan row ≡ bucket → AreCells scan bucket old
      → groups_in scan new ≡ merged (kinds_of scan.query) (counted_at scan row ∷ []) (groups_in scan old)
  pub cells : (bucket : ℕ) → bucket_at scan row ≡ bucket → AreCells scan bucket old → AreCells scan bucket new

-- ---- the same in a map by the numbers of cells

abbrev pub groups_by : Scan → List (ℕ × Cell) → List Group
groups_by scan entries = map (λ e. group_at scan e.1) entries

abbrev pub AreEntries : Scan → ℕ → List (ℕ × Cell) → Type 0
AreEntries scan bucket entries = AllByRecursion (λ e. IsCell scan bucket e.0 e.1) entries

pub record IsJoinedBy (scan : Scan) (row : ℕ) (old new : List (ℕ × Cell)) : Type 0 where
  pub groups : (bucket : ℕ) → bucket_at scan row ≡ bucket → AreEntries scan bucket old
      → groups_by scan new ≡ merged (kinds_of scan.query) (counted_at scan row ∷ []) (groups_by scan old)
  pub entries : (bucket : ℕ) → bucket_at scan row ≡ bucket → AreEntries scan bucket old → AreEntries scan bucket new

-- groups in cells, as they are handed out
abbrev pub AreKept : Scan → List (ℕ × Cell) → Type 0
AreKept scan entries = All (λ e. IsKept scan (Some e.1)) entries
