-- No query has a float.
use Rattle.std.proofs.Common.{◌≡◌, ℕ, List, [], ◌∷◌, map, codes, Option, Some, None, false, ◌||◌, refl, ap, ◌∙◌}
use Rattle.serde_json.specs.Data.{Data, array, Items}
use Rattle.serde_json.specs.View.{items_of}
use Rattle.serde_json.specs.Written.{has_float, items_have_float}
use Rattle.druid_filter.specs.Filters.{Condition, has, has_among, all_of, any_of, is_not, Conditions, no_conditions, condition}
use Rattle.druid_query.specs.Query.{Query, Dimension, Aggregator}
use Rattle.druid_query.specs.Written.{value_data, selector_data, among_data, fields_data, not_data, filter_data, filters_data, wanted_data, interval_data, dimension_data, counting_data, of_field_data, fielded_data, aggregator_data, aggregator_text, timeseries_data, group_by_data, intervals_data, kinded_data, query_data}
use Rattle.druid_query.specs.Asked.{Asked, asked_data}
use Rattle.druid_query.specs.SubQuery.{SubQuery, segments_data, sub_timeseries_data, sub_group_by_data, kinded_sub_data, subquery_data}
use Rattle.druid_query.specs.declared.query_type.QueryType.{QueryType}
use Rattle.druid_query.specs.declared.query_type.QueryType.TheVariants.{Timeseries, GroupBy}

items_plain : {A : Type 0} (f : A → Data) → ((x : A) → has_float (f x) ≡ false) → (xs : List A) → items_have_float (items_of (map f xs)) ≡ false
items_plain f plain [] = refl
items_plain f plain (x ∷ xs) = ap (λ b. b || items_have_float (items_of (map f xs))) (plain x) ∙ items_plain f plain xs

value_plain : (v : Option (List ℕ)) → has_float (value_data v) ≡ false
value_plain None = refl
value_plain (Some t) = refl

selector_plain : (d : List ℕ) (v : Option (List ℕ)) → has_float (selector_data d v) ≡ false
unfolding selector_data
selector_plain d v = ap (λ b. b || false) (value_plain v)

among_plain : (d : List ℕ) (vs : List (Option (List ℕ))) → has_float (among_data d vs) ≡ false
unfolding among_data
among_plain d vs = ap (λ b. b || false) (items_plain value_data value_plain vs)

fields_plain : (kind : List ℕ) (fs : Items) → items_have_float fs ≡ false → has_float (fields_data kind fs) ≡ false
unfolding fields_data
fields_plain kind fs plain = ap (λ b. b || false) plain

not_plain : (d : Data) → has_float d ≡ false → has_float (not_data d) ≡ false
unfolding not_data
not_plain d plain = ap (λ b. b || false) plain

mutual
  filter_plain : (c : Condition) → has_float (filter_data c) ≡ false
  filter_plain (has d v) = selector_plain d v
  filter_plain (has_among d vs) = among_plain d vs
  filter_plain (all_of cs) = fields_plain (codes "and") (filters_data cs) (filters_plain cs)
  filter_plain (any_of cs) = fields_plain (codes "or") (filters_data cs) (filters_plain cs)
  filter_plain (is_not c) = not_plain (filter_data c) (filter_plain c)

  filters_plain : (cs : Conditions) → items_have_float (filters_data cs) ≡ false
  filters_plain no_conditions = refl
  filters_plain (condition c cs) = ap (λ b. b || items_have_float (filters_data cs)) (filter_plain c) ∙ filters_plain cs

wanted_plain : (o : Option Condition) → has_float (wanted_data o) ≡ false
wanted_plain None = refl
wanted_plain (Some c) = filter_plain c

dimension_plain : (d : Dimension) → has_float (dimension_data d) ≡ false
unfolding dimension_data
dimension_plain d = refl

fielded_plain : (kind name : List ℕ) (field : Option (List ℕ)) → has_float (fielded_data kind name field) ≡ false
unfolding counting_data of_field_data
fielded_plain kind name None = refl
fielded_plain kind name (Some field) = refl

aggregator_plain : (a : Aggregator) → has_float (aggregator_data a) ≡ false
aggregator_plain a = fielded_plain (aggregator_text a.kind) a.name a.field

kinded_plain : (k : QueryType) (q : Query) (intervals : Data) → has_float intervals ≡ false → has_float (kinded_data k q intervals) ≡ false
unfolding timeseries_data group_by_data
kinded_plain Timeseries q intervals plain =
    let a = items_plain aggregator_data aggregator_plain q.aggregations in
    let w = wanted_plain q.filter in
    rw (a, w, plain) refl
kinded_plain GroupBy q intervals plain =
    let a = items_plain aggregator_data aggregator_plain q.aggregations in
    let d = items_plain dimension_data dimension_plain q.dimensions in
    let w = wanted_plain q.filter in
    rw (a, d, w, plain) refl

pub query_plain : (q : Query) → has_float (query_data q) ≡ false
query_plain q = kinded_plain q.kind q (array (intervals_data q.intervals)) (items_plain interval_data (λ e. refl) q.intervals)

-- ---- subqueries

asked_plain : (a : Asked) → has_float (asked_data a) ≡ false
unfolding asked_data
asked_plain a = refl

segments_plain : (asked : List Asked) → has_float (segments_data asked) ≡ false
unfolding segments_data
segments_plain asked = ap (λ b. b || false) (items_plain asked_data asked_plain asked)

kinded_sub_plain : (k : QueryType) (q : Query) (segments : Data) → has_float segments ≡ false → has_float (kinded_sub_data k q segments) ≡ false
unfolding sub_timeseries_data sub_group_by_data
kinded_sub_plain Timeseries q segments plain =
    let a = items_plain aggregator_data aggregator_plain q.aggregations in
    let w = wanted_plain q.filter in
    let i = items_plain interval_data (λ e. refl) q.intervals in
    rw (a, w, plain, i) refl
kinded_sub_plain GroupBy q segments plain =
    let a = items_plain aggregator_data aggregator_plain q.aggregations in
    let d = items_plain dimension_data dimension_plain q.dimensions in
    let w = wanted_plain q.filter in
    let i = items_plain interval_data (λ e. refl) q.intervals in
    rw (a, d, w, plain, i) refl

pub subquery_plain : (sub : SubQuery) → has_float (subquery_data sub) ≡ false
subquery_plain sub = kinded_sub_plain sub.query.kind sub.query (segments_data sub.asked) (segments_plain sub.asked)
