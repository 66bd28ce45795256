-- What each row of a segment tells a query.
use Rattle.std.specs.Prelude.{ℕ, ℤ, pos, Bool, true, ◌&&◌, nat_le, nat_lt, List, [], ◌∷◌, map, filter, Option, Some, None, option_and_then, if◌then◌else◌}
use Rattle.std.specs.Str.{bytes_eq}
use Rattle.druid_time.specs.Extent.{Extent}
use Rattle.druid_segment_rows.specs.Rows.{Schema, Row}
use Rattle.druid_segment_rows.specs.Segment.{Segment}
use Rattle.druid_filter.specs.Filters.{Condition, passes, value_in}
use Rattle.druid_query.specs.Query.{Query, Aggregator, Dimension}
use Rattle.druid_query.specs.declared.aggregator.AggregatorKind.{AggregatorKind}
use Rattle.druid_query.specs.declared.aggregator.AggregatorKind.TheVariants.{Count, LongSum, LongMin, LongMax}
use Rattle.druid_partial.specs.Groups.{Group}
use Rattle.druid_partial.specs.Partials.{bucket_of}

-- the number of the metric of that name, among the names of the metrics and a row's numbers of them; null where there is no
-- such metric, or no number
abbrev pub number_in : List (List ℕ) → List (Option ℤ) → List ℕ → Option ℤ
number_in [] numbers name = None
number_in (n ∷ names) [] name = None
number_in (n ∷ names) (x ∷ numbers) name = if bytes_eq n name then x else number_in names numbers name

-- to count takes 1, and any other kind the number
abbrev pub one_or : AggregatorKind → Option ℤ → Option ℤ
one_or Count number = Some (pos 1)
one_or LongSum number = number
one_or LongMin number = number
one_or LongMax number = number

-- what an aggregator takes of a row: to count 1, else the number of its field
abbrev pub taken : Schema → Row → Aggregator → Option ℤ
taken fields row a = one_or a.kind (option_and_then (number_in fields.metrics row.metrics) a.field)

-- a row's value of a dimension of the query. One that the segment has not is null, and so is one that is a metric there
abbrev pub value_for : Schema → Row → Dimension → Option (List ℕ)
value_for fields row d = value_in fields.dimensions row.dimensions d.dimension

-- what a row tells a query
abbrev pub row_group : Query → Schema → Row → Group
row_group query fields row = record {
  key = record { bucket = bucket_of query row.time; values = map (value_for fields row) query.dimensions };
  numbers = map (taken fields row) query.aggregations;
}

-- a query without a filter asks for all rows
abbrev pub passes_if : (List ℕ → Option (List ℕ)) → Option Condition → Bool
passes_if value None = true
passes_if value (Some condition) = passes value condition

-- the row lies in the interval, and passes the filter
abbrev pub is_asked : Query → Extent → Schema → Row → Bool
is_asked query interval fields row =
    nat_le interval.start row.time && nat_lt row.time interval.end
    && passes_if (value_in fields.dimensions row.dimensions) query.filter

-- what the rows of a segment in an interval tell a query
abbrev pub counted_by : Query → Segment → Extent → List Group
counted_by query segment interval = map (row_group query segment.fields) (filter (is_asked query interval segment.fields) segment.rows)
