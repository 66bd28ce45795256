-- The parts of a query, but for what stands at `intervals`: only proofs use this.
use Rattle.std.specs.Prelude.{ℕ, List, Option, Result, Ok}
use Rattle.serde_json.specs.Data.{Data}
use Rattle.druid_time.specs.Extent.{Extent}
use Rattle.druid_time.specs.Results.{◌>>=◌}
use Rattle.druid_time.specs.declared.granularity.Granularity.{Granularity}
use Rattle.druid_filter.specs.Filters.{Condition}
use Rattle.druid_query.specs.Query.{Query, Dimension, Aggregator, query_of, result_names}
use Rattle.druid_base.specs.Distinct.{are_distinct}
use Rattle.druid_query.specs.Refusal.{Refusal, unknown_type, doubled_name, or_refuse, when}
use Rattle.druid_query.specs.Asked.{inside_at}
use Rattle.druid_query.specs.SubQuery.{Span}
use Rattle.druid_query.specs.Fields.{kind_at, interval_of}
use Rattle.druid_query_text.specs.Found.{readings}
use Rattle.serde_json.specs.declared.value.Value.{Value}
use Rattle.druid_query.specs.Read.{source_at, granularity_at, filter_field, dimensions_at, aggregations_at, no_more_at}
use Rattle.druid_query.specs.declared.query_type.QueryType.{QueryType}

-- what is read before the intervals
pub record Head : Type 0 where
  pub kind : QueryType
  pub source : List ℕ
  pub granularity : Granularity

abbrev pub head_by : QueryType → List ℕ → Granularity → Head
head_by kind source granularity = record { kind = kind; source = source; granularity = granularity }

unfoldable pub head_at : Data → Result Head Refusal
head_at d = do
  kind ← or_refuse (kind_at d) unknown_type
  source ← source_at d
  granularity ← granularity_at d
  Ok (head_by kind source granularity)

-- what is read after them
pub record Tail : Type 0 where
  pub filter : Option Condition
  pub dimensions : List Dimension
  pub aggregations : List Aggregator

abbrev pub tail_by : Option Condition → List Dimension → List Aggregator → Tail
tail_by filter dimensions aggregations = record { filter = filter; dimensions = dimensions; aggregations = aggregations }

unfoldable pub tail_at : QueryType → Data → Result Tail Refusal
tail_at kind d = do
  filter ← filter_field d
  dimensions ← dimensions_at kind d
  aggregations ← aggregations_at d
  _ ← no_more_at d
  when (are_distinct (result_names dimensions aggregations)) (tail_by filter dimensions aggregations) doubled_name

-- the query of both and of what is read between them
abbrev pub query_by : Head → List Extent → Tail → Query
query_by head intervals tail = query_of head.kind head.source head.granularity intervals tail.filter tail.dimensions tail.aggregations

-- the pieces and the intervals of values that read
abbrev pub span_by : List ℕ → List Value → List Value → Span
span_by source asked intervals = record { asked = readings (inside_at source) asked; intervals = readings interval_of intervals }
