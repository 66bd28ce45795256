-- What a query asks, and its limits. A text is its bytes.
use Rattle.std.specs.Prelude.{ℕ, suc, ◌+◌, max, Bool, true, ◌&&◌, nat_le, List, ◌++◌, length, map, Option, Some, None}
use Rattle.std.specs.List.{list_all}
use Rattle.druid_time.specs.Extent.{Extent}
use Rattle.druid_time.specs.declared.granularity.Granularity.{Granularity}
use Rattle.druid_filter.specs.Filters.{Condition, has, has_among, all_of, any_of, is_not, Conditions, no_conditions, condition}
use Rattle.druid_query.specs.declared.aggregator.AggregatorKind.{AggregatorKind}
use Rattle.druid_query.specs.declared.query_type.QueryType.{QueryType}
use Rattle.druid_query.specs.Limits.{max_dimensions, max_aggregators, max_members, max_levels, max_values, max_label, max_value}

-- a dimension that rows are grouped by, and its name in the result
pub record Dimension : Type 0 where
  pub dimension : List ℕ
  pub output_name : List ℕ

-- what is reported of each group of rows, and its name in the result. To count takes no field
pub record Aggregator : Type 0 where
  pub name : List ℕ
  pub kind : AggregatorKind
  pub field : Option (List ℕ)

pub record Query : Type 0 where
  pub kind : QueryType
  pub source : List ℕ
  pub granularity : Granularity
  pub intervals : List Extent
  pub filter : Option Condition
  pub dimensions : List Dimension
  pub aggregations : List Aggregator

-- the query of these parts
abbrev pub query_of : QueryType → List ℕ → Granularity → List Extent → Option Condition → List Dimension → List Aggregator → Query
query_of kind source granularity intervals filter dimensions aggregations = record {
  kind = kind;
  source = source;
  granularity = granularity;
  intervals = intervals;
  filter = filter;
  dimensions = dimensions;
  aggregations = aggregations;
}

-- ---- limits

-- a name in a query: 1 to 100 bytes
abbrev pub is_label : List ℕ → Bool
is_label text = nat_le 1 (length text) && nat_le (length text) max_label

-- a value in a filter is null, or a text of 1,024 bytes at most
abbrev pub is_short : Option (List ℕ) → Bool
is_short None = true
is_short (Some text) = nat_le (length text) max_value

-- how deep filters nest; one alone is 1 deep
abbrev mutual
  pub levels : Condition → ℕ
  levels (has dimension value) = 1
  levels (has_among dimension values) = 1
  levels (all_of cs) = suc (most_levels cs)
  levels (any_of cs) = suc (most_levels cs)
  levels (is_not c) = suc (levels c)

  pub most_levels : Conditions → ℕ
  most_levels no_conditions = 0
  most_levels (condition c cs) = max (levels c) (most_levels cs)

-- how many filters there are in all, the outermost included
abbrev mutual
  pub members : Condition → ℕ
  members (has dimension value) = 1
  members (has_among dimension values) = 1
  members (all_of cs) = suc (all_members cs)
  members (any_of cs) = suc (all_members cs)
  members (is_not c) = suc (members c)

  pub all_members : Conditions → ℕ
  all_members no_conditions = 0
  all_members (condition c cs) = members c + all_members cs

-- each dimension is a name, each value short, and no list of values too long
abbrev mutual
  pub fits_texts : Condition → Bool
  fits_texts (has dimension value) = is_label dimension && is_short value
  fits_texts (has_among dimension values) = is_label dimension && nat_le (length values) max_values && list_all is_short values
  fits_texts (all_of cs) = fit_texts cs
  fits_texts (any_of cs) = fit_texts cs
  fits_texts (is_not c) = fits_texts c

  pub fit_texts : Conditions → Bool
  fit_texts no_conditions = true
  fit_texts (condition c cs) = fits_texts c && fit_texts cs

-- no limit of filters is passed
abbrev pub fits_filter : Condition → Bool
fits_filter c = nat_le (levels c) max_levels && nat_le (members c) max_members && fits_texts c

abbrev pub fits_dimension : Dimension → Bool
fits_dimension d = is_label d.dimension && is_label d.output_name

abbrev pub fit_dimensions : List Dimension → Bool
fit_dimensions ds = nat_le (length ds) max_dimensions && list_all fits_dimension ds

-- a name where there is one
abbrev pub is_label_if : Option (List ℕ) → Bool
is_label_if None = true
is_label_if (Some text) = is_label text

abbrev pub fits_aggregator : Aggregator → Bool
fits_aggregator a = is_label a.name && is_label_if a.field

abbrev pub fit_aggregators : List Aggregator → Bool
fit_aggregators all = nat_le (length all) max_aggregators && list_all fits_aggregator all

-- the names in the result, which have to be distinct
abbrev pub result_names : List Dimension → List Aggregator → List (List ℕ)
result_names dimensions aggregators = map (λ d. d.output_name) dimensions ++ map (λ a. a.name) aggregators
