-- Lists, written item by item.
use Rattle.std.proofs.Common.{◌≡◌, ℕ, ◌≤◌, List, [], ◌∷◌, map, codes, take, length, Option, option_map, String, Global, string_bytes, refl, ap, ◌∙◌}
use Rattle.std.proofs.lemmas.List.{take_all}
use Rattle.serde_json.specs.Data.{Data, null, boolean, number, string, array, object, item, Members, no_members, put}
use Rattle.serde_json.specs.View.{view, items_view, items_of}
use Rattle.serde_json.specs.declared.value.Value.{Value}
use Rattle.druid_filter.specs.Filters.{says, each_says}
use Rattle.druid_filter.specs.Values.{nullable_texts_of}
use Rattle.druid_filter.specs.declared.filter.Filter.{Filter}
use Rattle.druid_query.specs.Written.{value_data, filter_data, filters_data, wanted_data, granularity_text, aggregations_data, intervals_data, kinded_data, timeseries_data, group_by_data}
use Rattle.druid_query.specs.Query.{Query}
use Rattle.druid_query.specs.SubQuery.{kinded_sub_data, sub_timeseries_data, sub_group_by_data}
use Rattle.druid_query.specs.declared.query_type.QueryType.{QueryType}
use Rattle.druid_query.specs.declared.query_type.QueryType.TheVariants.{Timeseries, GroupBy}
use Rattle.druid_query_text.specs.Members.{kind_text, dimensions_put}

each_value : (vs : List (Option (String Global))) → items_of (map (λ o. value_data (option_map string_bytes o)) vs) ≡ items_of (map value_data (nullable_texts_of vs))
each_value [] = refl
each_value (v ∷ vs) = ap (item (value_data (option_map string_bytes v))) (each_value vs)

pub values_all : (xs : List Value) (vs : List (Option (String Global))) (i : ℕ) → length vs ≤ i → map view xs ≡ map (λ o. value_data (option_map string_bytes o)) (take i vs)
    → items_view xs ≡ items_of (map value_data (nullable_texts_of vs))
values_all xs vs i h done =
    ap items_of (done ∙ ap (λ ws. map (λ o. value_data (option_map string_bytes o)) ws) (take_all i vs h)) ∙ each_value vs

each_filter_data : (fs : List Filter) → items_of (map (λ f. filter_data (says f)) fs) ≡ filters_data (each_says fs)
each_filter_data [] = refl
each_filter_data (f ∷ fs) = ap (item (filter_data (says f))) (each_filter_data fs)

pub filters_all : (xs : List Value) (fs : List Filter) (i : ℕ) → length fs ≤ i → map view xs ≡ map (λ f. filter_data (says f)) (take i fs) → items_view xs ≡ filters_data (each_says fs)
filters_all xs fs i h done =
    ap items_of (done ∙ ap (λ ws. map (λ f. filter_data (says f)) ws) (take_all i fs h)) ∙ each_filter_data fs

-- ---- the members of a query

pub put_same : (k : List ℕ) (d e : Data) (ms ns : Members) → d ≡ e → ms ≡ ns → put k d ms ≡ put k e ns
put_same k d e ms ns same more = ap (λ x. put k x ms) same ∙ ap (put k e) more

pub members_written : (k : QueryType) (q : Query) (intervals : Data)
    → object (put (codes "queryType") (string (kind_text k)) (put (codes "intervals") intervals (put (codes "granularity") (string (granularity_text q.granularity)) (put (codes "filter") (wanted_data q.filter)
    (dimensions_put k q.dimensions (put (codes "dataSource") (string q.source) (put (codes "aggregations") (array (aggregations_data q.aggregations)) no_members)))))))
    ≡ kinded_data k q intervals
unfolding timeseries_data group_by_data
members_written Timeseries q intervals = refl
members_written GroupBy q intervals = refl

members_in : Data → Members
members_in null = no_members
members_in (boolean b) = no_members
members_in (number n) = no_members
members_in (string s) = no_members
members_in (array ds) = no_members
members_in (object ms) = ms

with_intervals : (k : QueryType) (q : Query) (segments : Data) → object (put (codes "queryIntervals") (array (intervals_data q.intervals)) (members_in (kinded_data k q segments))) ≡ kinded_sub_data k q segments
unfolding members_in timeseries_data group_by_data sub_timeseries_data sub_group_by_data
with_intervals Timeseries q segments = refl
with_intervals GroupBy q segments = refl

pub sub_written : (k : QueryType) (q : Query) (segments : Data) (ms : Members) → object ms ≡ kinded_data k q segments
    → object (put (codes "queryIntervals") (array (intervals_data q.intervals)) ms) ≡ kinded_sub_data k q segments
unfolding members_in
sub_written k q segments ms h = ap (λ d. object (put (codes "queryIntervals") (array (intervals_data q.intervals)) (members_in d))) h ∙ with_intervals k q segments
