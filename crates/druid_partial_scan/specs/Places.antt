-- Where the fields that a query names stand in a segment. Only proofs and private functions use this: what it means is in
-- Rows.
use Rattle.std.specs.Prelude.{ℕ, suc, ◌<◌, ℤ, pos, List, [], ◌∷◌, length, map, slice_index_or, Option, Some, None, IfSome, option_map, option_and_then, ⊤, if◌then◌else◌}
use Rattle.std.specs.Str.{bytes_eq}
use Rattle.druid_segment_rows.specs.Rows.{Schema, Row}
use Rattle.druid_query.specs.Query.{Query, Aggregator}
use Rattle.druid_query.specs.declared.aggregator.AggregatorKind.{AggregatorKind}
use Rattle.druid_query.specs.declared.aggregator.AggregatorKind.TheVariants.{Count, LongSum, LongMin, LongMax}
use Rattle.druid_partial_scan.specs.declared.field_sources.NumberSource.{NumberSource}
use Rattle.druid_partial_scan.specs.declared.field_sources.NumberSource.TheVariants as sources

-- the first place of a name
abbrev pub place_in : List (List ℕ) → List ℕ → Option ℕ
place_in [] name = None
place_in (n ∷ names) name = if bytes_eq n name then Some 0 else option_map suc (place_in names name)

-- the value there
abbrev pub at_place : {X : Type 0} → List (Option X) → Option ℕ → Option X
at_place values None = None
at_place values (Some place) = slice_index_or values place None

-- the places of a query's dimensions
abbrev pub places_of : Query → Schema → List (Option ℕ)
places_of query fields = map (λ d. place_in fields.dimensions d.dimension) query.dimensions

-- where a number comes from
abbrev pub source_at : Option ℕ → NumberSource
source_at None = sources.Null
source_at (Some place) = sources.Metric place

abbrev pub source_for : AggregatorKind → Option ℕ → NumberSource
source_for Count place = sources.One
source_for LongSum place = source_at place
source_for LongMin place = source_at place
source_for LongMax place = source_at place

abbrev pub source_of : Schema → Aggregator → NumberSource
source_of fields a = source_for a.kind (option_and_then (place_in fields.metrics) a.field)

-- where the numbers of a query's aggregators come from
abbrev pub sources_of : Query → Schema → List NumberSource
sources_of query fields = map (source_of fields) query.aggregations

-- the number that comes from there
abbrev pub source_number : Row → NumberSource → Option ℤ
source_number row sources.One = Some (pos 1)
source_number row sources.Null = None
source_number row (sources.Metric place) = slice_index_or row.metrics place None

-- the segment has such a metric
abbrev pub IsSource : Schema → NumberSource → Type 0
IsSource fields sources.One = ⊤
IsSource fields sources.Null = ⊤
IsSource fields (sources.Metric place) = place < length fields.metrics

-- the segment has such a dimension
abbrev pub IsPlace : Schema → Option ℕ → Type 0
IsPlace fields place = IfSome place (λ p. p < length fields.dimensions)
