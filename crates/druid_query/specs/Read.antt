-- Queries, read out of JSON: the query, or the first refusal.
use Rattle.std.specs.Prelude.{◌≡◌, ℕ, Bool, nat_le, List, [], codes, length, Option, Some, None, is_some, Result, Ok, Err, ⊤, IsUtf8, option_and_then, if◌then◌else◌}
use Rattle.serde_json.specs.Data.{Data, Items}
use Rattle.serde_json.specs.Find.{get, as_null}
use Rattle.druid_base.specs.Json.{ReadsAs}
use Rattle.druid_time.specs.Extent.{Extent}
use Rattle.druid_time.specs.Results.{◌>>=◌}
use Rattle.druid_time.specs.declared.granularity.Granularity.{Granularity}
use Rattle.druid_segment_id.specs.Names.{is_name}
use Rattle.druid_filter.specs.Filters.{Condition}
use Rattle.druid_query.specs.Query.{Query, Dimension, Aggregator, query_of, is_label, fits_filter, fit_dimensions, fit_aggregators, result_names}
use Rattle.druid_base.specs.Distinct.{are_distinct}
use Rattle.druid_query.specs.Refusal.{Refusal, unknown_type, bad_field, bad_interval, limit_passed, doubled_name, or_refuse, when, allow, Gives}
use Rattle.druid_base.specs.Each.{each_of}
use Rattle.druid_query.specs.Filters.{filter_at}
use Rattle.druid_query.specs.Fields.{kind_at, source_text, granularity_of, interval_texts, interval_of, items_or_none, dimension_at, aggregator_at, is_off, is_empty_or_absent}
use Rattle.druid_query.specs.declared.fault.QueryFault.{QueryFault}
use Rattle.druid_query.specs.declared.fault.QueryFault.TheVariants as faults
use Rattle.druid_query.specs.Limits.{max_intervals}
use Rattle.druid_query.specs.declared.query_type.QueryType.{QueryType}
use Rattle.druid_query.specs.declared.query_type.QueryType.TheVariants.{Timeseries, GroupBy}

-- ---- field by field

-- a text within the length of a name that is no data source's name has another shape
unfoldable pub source_at : Data → Result (List ℕ) Refusal
source_at d = do
  text ← or_refuse (option_and_then source_text (get (codes "dataSource") d)) (bad_field (codes "dataSource"))
  if is_name text then Ok text else Err (if is_label text then bad_field (codes "dataSource") else limit_passed)

unfoldable pub granularity_at : Data → Result Granularity Refusal
granularity_at d = or_refuse (option_and_then granularity_of (get (codes "granularity") d)) (bad_field (codes "granularity"))

-- a list: its shape, then each of its items, then its limits
abbrev pub list_of : {A : Type 0} → Option Items → Refusal → (Data → Option A) → Refusal → (List A → Bool) → Result (List A) Refusal
list_of found shape f each fits = do
  items ← or_refuse found shape
  all ← or_refuse (each_of f items) each
  when (fits all) all limit_passed

abbrev pub fit_intervals : List Extent → Bool
fit_intervals all = nat_le (length all) max_intervals

unfoldable pub intervals_at : Data → Result (List Extent) Refusal
intervals_at d = list_of (option_and_then interval_texts (get (codes "intervals") d)) (bad_field (codes "intervals")) interval_of bad_interval fit_intervals

-- the filter of a value that is not null
unfoldable pub wanted_filter : Data → Result (Option Condition) Refusal
wanted_filter d = do
  c ← or_refuse (filter_at d) (bad_field (codes "filter"))
  when (fits_filter c) (Some c) limit_passed

abbrev pub filter_or_none : Option Data → Result (Option Condition) Refusal
filter_or_none None = Ok None
filter_or_none (Some d) = if is_some (as_null d) then Ok None else wanted_filter d

unfoldable pub filter_field : Data → Result (Option Condition) Refusal
filter_field d = filter_or_none (get (codes "filter") d)

unfoldable pub listed_dimensions : Data → Result (List Dimension) Refusal
listed_dimensions d =
    list_of (items_or_none (get (codes "dimensions") d)) (bad_field (codes "dimensions")) dimension_at (bad_field (codes "dimensions")) fit_dimensions

-- a `timeseries` has none, whatever stands there
abbrev pub dimensions_at : QueryType → Data → Result (List Dimension) Refusal
dimensions_at Timeseries d = Ok []
dimensions_at GroupBy d = listed_dimensions d

unfoldable pub aggregations_at : Data → Result (List Aggregator) Refusal
aggregations_at d =
    list_of (items_or_none (get (codes "aggregations") d)) (bad_field (codes "aggregations")) aggregator_at (bad_field (codes "aggregations")) fit_aggregators

-- a field that has to be left out, or empty
abbrev pub nothing_at : List ℕ → Data → Result ⊤ Refusal
nothing_at key d = allow (is_empty_or_absent (get key d)) (bad_field key)

-- ---- the whole

-- the parts of a query, in order
unfoldable pub parts_at : Data → Result Query Refusal
parts_at d = do
  kind ← or_refuse (kind_at d) unknown_type
  source ← source_at d
  granularity ← granularity_at d
  intervals ← intervals_at d
  filter ← filter_field d
  dimensions ← dimensions_at kind d
  aggregations ← aggregations_at d
  Ok (query_of kind source granularity intervals filter dimensions aggregations)

-- what queries of other kinds have, and these have not
unfoldable pub no_more_at : Data → Result ⊤ Refusal
no_more_at d = do
  _ ← allow (is_off (get (codes "descending") d)) (bad_field (codes "descending"))
  _ ← nothing_at (codes "postAggregations") d
  _ ← nothing_at (codes "virtualColumns") d
  _ ← nothing_at (codes "having") d
  _ ← nothing_at (codes "limitSpec") d
  _ ← nothing_at (codes "limit") d
  nothing_at (codes "subtotalsSpec") d

-- the query that a value is
unfoldable pub query_at : Data → Result Query Refusal
query_at d = do
  query ← parts_at d
  _ ← no_more_at d
  when (are_distinct (result_names query.dimensions query.aggregations)) query doubled_name

-- a query is what some JSON reads as
abbrev pub IsQuery : Query → Type 0
IsQuery q = (d : Data) × (query_at d ≡ Ok q)

-- the same out of bytes, which may be no JSON; reading JSON may run out of memory at any byte of a text
abbrev pub IsReadBy : {A : Type 0} → (Data → Result A Refusal) → List ℕ → Result A QueryFault → Type 0
IsReadBy at bytes (Err faults.NotJson) = (d : Data) → ReadsAs bytes d → ⊥
IsReadBy at bytes (Err faults.Memory) = IsUtf8 bytes
IsReadBy at bytes answer = (d : Data) × ReadsAs bytes d × Gives answer (at d)

abbrev pub IsReadOf : List ℕ → Result Query QueryFault → Type 0
IsReadOf bytes answer = IsReadBy query_at bytes answer
