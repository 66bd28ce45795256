-- Queries as JSON.
use Rattle.std.specs.Prelude.{ℕ, List, map, codes, Option, Some, None}
use Rattle.serde_json.specs.Data.{Data, null, string, array, object, Items, no_items, item, no_members, member}
use Rattle.serde_json.specs.View.{items_of}
use Rattle.serde_json.specs.Written.{compact_text}
use Rattle.druid_time.specs.Extent.{Extent}
use Rattle.druid_time.specs.Texts.{extent_text}
use Rattle.druid_time.specs.declared.granularity.Granularity.{Granularity}
use Rattle.druid_time.specs.declared.granularity.Granularity.TheVariants.{All, Second, Minute, Hour, Day}
use Rattle.druid_filter.specs.Filters.{Condition, has, has_among, all_of, any_of, is_not, Conditions, no_conditions, condition}
use Rattle.druid_query.specs.Query.{Query, Dimension, Aggregator}
use Rattle.druid_query.specs.declared.aggregator.AggregatorKind.{AggregatorKind}
use Rattle.druid_query.specs.declared.aggregator.AggregatorKind.TheVariants.{Count, LongSum, LongMin, LongMax}
use Rattle.druid_query.specs.declared.query_type.QueryType.{QueryType}
use Rattle.druid_query.specs.declared.query_type.QueryType.TheVariants.{Timeseries, GroupBy}

-- a value of a dimension: a text or null
abbrev pub value_data : Option (List ℕ) → Data
value_data None = null
value_data (Some text) = string text

unfoldable pub selector_data : List ℕ → Option (List ℕ) → Data
selector_data dimension value =
    object (member (codes "dimension") (string dimension)
    (member (codes "type") (string (codes "selector"))
    (member (codes "value") (value_data value) no_members)))

unfoldable pub among_data : List ℕ → List (Option (List ℕ)) → Data
among_data dimension values =
    object (member (codes "dimension") (string dimension)
    (member (codes "type") (string (codes "in"))
    (member (codes "values") (array (items_of (map value_data values))) no_members)))

-- a filter of filters
unfoldable pub fields_data : List ℕ → Items → Data
fields_data kind fields = object (member (codes "fields") (array fields) (member (codes "type") (string kind) no_members))

unfoldable pub not_data : Data → Data
not_data field = object (member (codes "field") field (member (codes "type") (string (codes "not")) no_members))

abbrev mutual
  pub filter_data : Condition → Data
  filter_data (has dimension value) = selector_data dimension value
  filter_data (has_among dimension values) = among_data dimension values
  filter_data (all_of cs) = fields_data (codes "and") (filters_data cs)
  filter_data (any_of cs) = fields_data (codes "or") (filters_data cs)
  filter_data (is_not c) = not_data (filter_data c)

  pub filters_data : Conditions → Items
  filters_data no_conditions = no_items
  filters_data (condition c cs) = item (filter_data c) (filters_data cs)

-- null where all rows are asked for
abbrev pub wanted_data : Option Condition → Data
wanted_data None = null
wanted_data (Some c) = filter_data c

abbrev pub granularity_text : Granularity → List ℕ
granularity_text All = codes "all"
granularity_text Second = codes "second"
granularity_text Minute = codes "minute"
granularity_text Hour = codes "hour"
granularity_text Day = codes "day"

abbrev pub interval_data : Extent → Data
interval_data e = string (extent_text e)

unfoldable pub dimension_data : Dimension → Data
dimension_data d =
    object (member (codes "dimension") (string d.dimension)
    (member (codes "outputName") (string d.output_name)
    (member (codes "type") (string (codes "default")) no_members)))

abbrev pub aggregator_text : AggregatorKind → List ℕ
aggregator_text Count = codes "count"
aggregator_text LongSum = codes "longSum"
aggregator_text LongMin = codes "longMin"
aggregator_text LongMax = codes "longMax"

unfoldable pub counting_data : List ℕ → List ℕ → Data
counting_data kind name = object (member (codes "name") (string name) (member (codes "type") (string kind) no_members))

unfoldable pub of_field_data : List ℕ → List ℕ → List ℕ → Data
of_field_data kind name field =
    object (member (codes "fieldName") (string field)
    (member (codes "name") (string name)
    (member (codes "type") (string kind) no_members)))

-- to count takes no field
abbrev pub fielded_data : List ℕ → List ℕ → Option (List ℕ) → Data
fielded_data kind name None = counting_data kind name
fielded_data kind name (Some field) = of_field_data kind name field

abbrev pub aggregator_data : Aggregator → Data
aggregator_data a = fielded_data (aggregator_text a.kind) a.name a.field

-- a query by its parts: the keys in the order of their bytes
unfoldable pub timeseries_data : Items → List ℕ → Data → List ℕ → Data → Data
timeseries_data aggregations source filter granularity intervals =
    object (member (codes "aggregations") (array aggregations)
    (member (codes "dataSource") (string source)
    (member (codes "filter") filter
    (member (codes "granularity") (string granularity)
    (member (codes "intervals") intervals
    (member (codes "queryType") (string (codes "timeseries")) no_members))))))

-- a `groupBy` has its dimensions too
unfoldable pub group_by_data : Items → List ℕ → Items → Data → List ℕ → Data → Data
group_by_data aggregations source dimensions filter granularity intervals =
    object (member (codes "aggregations") (array aggregations)
    (member (codes "dataSource") (string source)
    (member (codes "dimensions") (array dimensions)
    (member (codes "filter") filter
    (member (codes "granularity") (string granularity)
    (member (codes "intervals") intervals
    (member (codes "queryType") (string (codes "groupBy")) no_members)))))))

abbrev pub aggregations_data : List Aggregator → Items
aggregations_data all = items_of (map aggregator_data all)

abbrev pub dimensions_data : List Dimension → Items
dimensions_data all = items_of (map dimension_data all)

abbrev pub intervals_data : List Extent → Items
intervals_data all = items_of (map interval_data all)

abbrev pub kinded_data : QueryType → Query → Data → Data
kinded_data Timeseries q intervals = timeseries_data (aggregations_data q.aggregations) q.source (wanted_data q.filter) (granularity_text q.granularity) intervals
kinded_data GroupBy q intervals =
    group_by_data (aggregations_data q.aggregations) q.source (dimensions_data q.dimensions) (wanted_data q.filter) (granularity_text q.granularity) intervals

-- the JSON of a query
abbrev pub query_data : Query → Data
query_data q = kinded_data q.kind q (array (intervals_data q.intervals))

-- the text of a query: its JSON, compact
abbrev pub query_text : Query → List ℕ
query_text q = compact_text (query_data q)
