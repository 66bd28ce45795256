-- How deep the JSON of a query nests.
use Rattle.std.proofs.Common.{ℕ, ◌+◌, ◌*◌, ◌≤◌, nat_le, List, codes, Option, Some, None, Bool, ◌&&◌, arith}
use Rattle.std.proofs.lemmas.Bool.{leb-true, and_parts}
use Rattle.serde_json.specs.Data.{Data, array, Items, depth, items_depth}
use Rattle.druid_time.specs.Extent.{Extent}
use Rattle.druid_segment_text.proofs.WrittenLemmas.{items_shallow}
use Rattle.druid_filter.specs.Filters.{Condition, has, has_among, all_of, any_of, is_not, Conditions, no_conditions, condition}
use Rattle.druid_query.specs.Query.{Query, Dimension, Aggregator, levels, most_levels, members, fits_texts}
use Rattle.druid_query.specs.Read.{IsQuery}
use Rattle.druid_query.specs.Written.{value_data, selector_data, among_data, fields_data, not_data, filter_data, filters_data, wanted_data, interval_data, dimension_data, counting_data, of_field_data, fielded_data, aggregator_data, aggregator_text, timeseries_data, group_by_data, intervals_data, kinded_data, query_data}
use Rattle.druid_query.specs.Limits.{max_members, max_levels}
use Rattle.druid_query.specs.Asked.{Asked, asked_data}
use Rattle.druid_query.specs.SubQuery.{SubQuery, segments_data, sub_timeseries_data, sub_group_by_data, kinded_sub_data, subquery_data}
use Rattle.druid_query.specs.declared.query_type.QueryType.{QueryType}
use Rattle.druid_query.specs.declared.query_type.QueryType.TheVariants.{Timeseries, GroupBy}
use Rattle.druid_query.proofs.PartLemmas.{parts_whole}
use Rattle.druid_query_text.proofs.QueryBackLemmas.{Passes, filter_reports}

value_deep : (v : Option (List ℕ)) → depth (value_data v) ≤ 0
value_deep None = omega arith
value_deep (Some t) = omega arith

selector_deep : (d : List ℕ) (v : Option (List ℕ)) → depth (selector_data d v) ≤ 2
unfolding selector_data
selector_deep d v = omega (arith, value_deep v)

among_deep : (d : List ℕ) (vs : List (Option (List ℕ))) → depth (among_data d vs) ≤ 2
unfolding among_data
among_deep d vs = omega (arith, items_shallow value_data 0 value_deep vs)

fields_deep : (kind : List ℕ) (fs : Items) → depth (fields_data kind fs) ≤ items_depth fs + 2
unfolding fields_data
fields_deep kind fs = omega arith

not_deep : (d : Data) → depth (not_data d) ≤ depth d + 1
unfolding not_data
not_deep d = omega arith

mutual
  filter_deep : (c : Condition) → depth (filter_data c) ≤ 2 * levels c
  filter_deep (has d v) = omega (arith, selector_deep d v)
  filter_deep (has_among d vs) = omega (arith, among_deep d vs)
  filter_deep (all_of cs) = omega (arith, fields_deep (codes "and") (filters_data cs), filters_deep cs)
  filter_deep (any_of cs) = omega (arith, fields_deep (codes "or") (filters_data cs), filters_deep cs)
  filter_deep (is_not c) = omega (arith, not_deep (filter_data c), filter_deep c)

  filters_deep : (cs : Conditions) → items_depth (filters_data cs) ≤ 2 * most_levels cs
  filters_deep no_conditions = omega arith
  filters_deep (condition c cs) = omega (arith, filter_deep c, filters_deep cs)

wanted_deep : (o : Option Condition) → Passes o → depth (wanted_data o) ≤ 100
wanted_deep None h = omega arith
wanted_deep (Some c) h =
    let texts = and_parts (nat_le (levels c) max_levels && nat_le (members c) max_members) (fits_texts c) h in
    let limits = and_parts (nat_le (levels c) max_levels) (nat_le (members c) max_members) texts.0 in
    let few : levels c ≤ 50 = leb-true (levels c) 50 limits.0 in
    omega (arith, filter_deep c, few)

dimension_deep : (d : Dimension) → depth (dimension_data d) ≤ 1
unfolding dimension_data
dimension_deep d = omega arith

fielded_deep : (kind name : List ℕ) (field : Option (List ℕ)) → depth (fielded_data kind name field) ≤ 1
unfolding counting_data of_field_data
fielded_deep kind name None = omega arith
fielded_deep kind name (Some field) = omega arith

aggregator_deep : (a : Aggregator) → depth (aggregator_data a) ≤ 1
aggregator_deep a = fielded_deep (aggregator_text a.kind) a.name a.field

interval_deep : (e : Extent) → depth (interval_data e) ≤ 0
interval_deep e = omega arith

kinded_deep : (k : QueryType) (q : Query) → Passes q.filter → depth (kinded_data k q (array (intervals_data q.intervals))) ≤ 127
unfolding timeseries_data group_by_data
kinded_deep Timeseries q passes =
    omega (arith, items_shallow aggregator_data 1 aggregator_deep q.aggregations, items_shallow interval_data 0 interval_deep q.intervals, wanted_deep q.filter passes)
kinded_deep GroupBy q passes =
    omega (arith, items_shallow aggregator_data 1 aggregator_deep q.aggregations, items_shallow dimension_data 1 dimension_deep q.dimensions, items_shallow interval_data 0 interval_deep q.intervals, wanted_deep q.filter passes)

-- the JSON of a query nests no deeper than a reader takes
pub query_deep : (q : Query) → IsQuery q → depth (query_data q) ≤ 127
query_deep q (e, read) = kinded_deep q.kind q (filter_reports e q.filter (parts_whole e q read).filter)

-- ---- subqueries

asked_deep : (a : Asked) → depth (asked_data a) ≤ 1
unfolding asked_data
asked_deep a = omega arith

segments_deep : (asked : List Asked) → depth (segments_data asked) ≤ 3
unfolding segments_data
segments_deep asked = omega (arith, items_shallow asked_data 1 asked_deep asked)

kinded_sub_deep : (k : QueryType) (q : Query) (segments : Data) → Passes q.filter → depth segments ≤ 3 → depth (kinded_sub_data k q segments) ≤ 127
unfolding sub_timeseries_data sub_group_by_data
kinded_sub_deep Timeseries q segments passes few =
    omega (arith, items_shallow aggregator_data 1 aggregator_deep q.aggregations, items_shallow interval_data 0 interval_deep q.intervals, wanted_deep q.filter passes, few)
kinded_sub_deep GroupBy q segments passes few =
    omega (arith, items_shallow aggregator_data 1 aggregator_deep q.aggregations, items_shallow dimension_data 1 dimension_deep q.dimensions, items_shallow interval_data 0 interval_deep q.intervals, wanted_deep q.filter passes, few)

pub subquery_deep : (sub : SubQuery) → IsQuery sub.query → depth (subquery_data sub) ≤ 127
subquery_deep sub (e, read) =
    kinded_sub_deep sub.query.kind sub.query (segments_data sub.asked) (filter_reports e sub.query.filter (parts_whole e sub.query read).filter) (segments_deep sub.asked)
