-- Queries to a node: a query, and the pieces of segments that it is to be answered from.
use Rattle.std.specs.Prelude.{◌≡◌, ℕ, List, codes, Result, Ok, option_and_then, Contains}
use Rattle.serde_json.specs.Data.{Data, string, array, object, Items, no_members, member}
use Rattle.serde_json.specs.Find.{get}
use Rattle.serde_json.specs.View.{items_of}
use Rattle.serde_json.specs.Written.{compact_text}
use Rattle.std.specs.Prelude.{map}
use Rattle.druid_time.specs.Extent.{Extent, IsExtent}
use Rattle.druid_time.specs.Results.{◌>>=◌}
use Rattle.druid_segment_id.specs.Identifier.{IsIdentifier}
use Rattle.druid_base.specs.Each.{each_of}
use Rattle.druid_query.specs.Query.{Query, query_of, result_names}
use Rattle.druid_base.specs.Distinct.{are_distinct}
use Rattle.druid_query.specs.Asked.{Asked, LiesInside, StandApart, stand_apart, asked_data, inside_at, asked_items}
use Rattle.druid_query.specs.Refusal.{Refusal, unknown_type, bad_field, bad_interval, doubled_name, or_refuse, when, GivesAfter}
use Rattle.druid_query.specs.Fields.{kind_at, listed_texts, interval_of}
use Rattle.druid_query.specs.Read.{list_of, fit_intervals, source_at, granularity_at, filter_field, dimensions_at, aggregations_at, no_more_at}
use Rattle.druid_query.specs.Written.{aggregations_data, dimensions_data, intervals_data, wanted_data, granularity_text}
use Rattle.druid_query.specs.declared.fault.QueryFault.{QueryFault}
use Rattle.druid_query.specs.declared.query_type.QueryType.{QueryType}
use Rattle.druid_query.specs.declared.query_type.QueryType.TheVariants.{Timeseries, GroupBy}

pub record SubQuery : Type 0 where
  pub query : Query
  pub asked : List Asked

-- what some JSON reads as: a piece is asked for, each is of a segment of the query's source and lies inside it, and no
-- two of one segment overlap
pub record IsAsked (source : List ℕ) (asked : List Asked) : Type 0 where
  pub some : (a : Asked) × Contains asked a
  pub valid : (a : Asked) → Contains asked a → IsIdentifier a.0 × IsExtent a.1
  pub sources : (a : Asked) → Contains asked a → a.0.source ≡ source
  pub inside : (a : Asked) → Contains asked a → LiesInside a
  pub apart : StandApart asked

-- ---- read

-- the pieces, before they are searched for two that overlap
unfoldable pub pieces_at : List ℕ → Data → Result (List Asked) Refusal
pieces_at source d = do
  items ← or_refuse (option_and_then asked_items (get (codes "intervals") d)) (bad_field (codes "intervals"))
  or_refuse (each_of (inside_at source) items) bad_interval

unfoldable pub apart_at : List ℕ → Data → Result (List Asked) Refusal
apart_at source d = do
  asked ← pieces_at source d
  when (stand_apart asked) asked bad_interval

-- the intervals of the query, in a list alone
unfoldable pub query_intervals_at : Data → Result (List Extent) Refusal
query_intervals_at d =
    list_of (option_and_then listed_texts (get (codes "queryIntervals") d)) (bad_field (codes "queryIntervals")) interval_of bad_interval fit_intervals

-- what stands in place of a query's intervals: the pieces, and then the query's own intervals
pub record Span : Type 0 where
  pub asked : List Asked
  pub intervals : List Extent

unfoldable pub span_at : List ℕ → Data → Result Span Refusal
span_at source d = do
  asked ← apart_at source d
  intervals ← query_intervals_at d
  Ok (record { asked = asked; intervals = intervals })

-- the parts of a subquery, in order
unfoldable pub sub_parts_at : Data → Result SubQuery Refusal
sub_parts_at d = do
  kind ← or_refuse (kind_at d) unknown_type
  source ← source_at d
  granularity ← granularity_at d
  span ← span_at source d
  filter ← filter_field d
  dimensions ← dimensions_at kind d
  aggregations ← aggregations_at d
  Ok (record { query = query_of kind source granularity span.intervals filter dimensions aggregations; asked = span.asked })

-- the subquery that a value is
unfoldable pub subquery_at : Data → Result SubQuery Refusal
subquery_at d = do
  sub ← sub_parts_at d
  _ ← no_more_at d
  when (are_distinct (result_names sub.query.dimensions sub.query.aggregations)) sub doubled_name

-- what is judged before the pieces are searched for two that overlap
unfoldable pub before_search : Data → Result (List Asked) Refusal
before_search d = do
  kind ← or_refuse (kind_at d) unknown_type
  source ← source_at d
  granularity ← granularity_at d
  pieces_at source d

-- what reading a subquery answers. That search allocates, so out of memory may come in place of a refusal that
-- follows it
abbrev pub GivesSub : Data → Result SubQuery QueryFault → Type 0
GivesSub d answer = GivesAfter (before_search d) answer (subquery_at d)

-- ---- written

-- a subquery by its parts: the keys in the order of their bytes
unfoldable pub sub_timeseries_data : Items → List ℕ → Data → List ℕ → Data → Items → Data
sub_timeseries_data aggregations source filter granularity segments intervals =
    object (member (codes "aggregations") (array aggregations)
    (member (codes "dataSource") (string source)
    (member (codes "filter") filter
    (member (codes "granularity") (string granularity)
    (member (codes "intervals") segments
    (member (codes "queryIntervals") (array intervals)
    (member (codes "queryType") (string (codes "timeseries")) no_members)))))))

-- a `groupBy` has its dimensions too
unfoldable pub sub_group_by_data : Items → List ℕ → Items → Data → List ℕ → Data → Items → Data
sub_group_by_data aggregations source dimensions filter granularity segments intervals =
    object (member (codes "aggregations") (array aggregations)
    (member (codes "dataSource") (string source)
    (member (codes "dimensions") (array dimensions)
    (member (codes "filter") filter
    (member (codes "granularity") (string granularity)
    (member (codes "intervals") segments
    (member (codes "queryIntervals") (array intervals)
    (member (codes "queryType") (string (codes "groupBy")) no_members))))))))

-- a list of pieces
abbrev pub pieces_data : List Asked → Items
pieces_data asked = items_of (map asked_data asked)

unfoldable pub segments_data : List Asked → Data
segments_data asked = object (member (codes "segments") (array (pieces_data asked)) (member (codes "type") (string (codes "segments")) no_members))

abbrev pub kinded_sub_data : QueryType → Query → Data → Data
kinded_sub_data Timeseries q segments =
    sub_timeseries_data (aggregations_data q.aggregations) q.source (wanted_data q.filter) (granularity_text q.granularity) segments (intervals_data q.intervals)
kinded_sub_data GroupBy q segments =
    sub_group_by_data (aggregations_data q.aggregations) q.source (dimensions_data q.dimensions) (wanted_data q.filter) (granularity_text q.granularity) segments (intervals_data q.intervals)

-- the JSON of a subquery
abbrev pub subquery_data : SubQuery → Data
subquery_data sub = kinded_sub_data sub.query.kind sub.query (segments_data sub.asked)

-- the text of a subquery: its JSON, compact
abbrev pub subquery_text : SubQuery → List ℕ
subquery_text sub = compact_text (subquery_data sub)
