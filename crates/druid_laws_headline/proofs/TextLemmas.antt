-- The texts of a subquery and of an answer of a node are JSON that reads as the subquery's, and as the answer's.
use Rattle.std.proofs.Common.{◌≡◌, ℕ, ℤ, pos, negsuc, List, [], ◌∷◌, map, All, Option, Some, None, IfSome, codes, refl, arith}
use Rattle.std.specs.Prelude.{FitsSigned, Contains}
use Rattle.std.specs.Int.{w64}
use Rattle.std.proofs.lemmas.Int.{ints}
use Rattle.std.proofs.lemmas.List.Elements.{All-head, All-tail, All-contains}
use Rattle.json.specs.Tree as tree
use Rattle.json.proofs.Printed.Decimals.{IsNumber-decimal, IsNumber-signed_decimal}
use Rattle.serde_json.specs.Data.{Data, number, Items}
use Rattle.serde_json.specs.Find.{of_integer}
use Rattle.serde_json.specs.View.{items_of}
use Rattle.serde_json.specs.Written.{outline, items_outline, compact_text}
use Rattle.serde_json.specs.Read.{read}
use Rattle.serde_json.proofs.Numbers.{number_of-decimal}
use Rattle.druid_time.specs.Extent.{Extent}
use Rattle.druid_filter.specs.Filters.{Condition, has, has_among, all_of, any_of, is_not, Conditions, no_conditions, condition}
use Rattle.druid_query.specs.Query.{Query, Dimension, Aggregator}
use Rattle.druid_query.specs.Read.{IsQuery}
use Rattle.druid_query.specs.Written.{value_data, selector_data, among_data, fields_data, not_data, filter_data, filters_data, wanted_data, interval_data, dimension_data, counting_data, of_field_data, fielded_data, aggregator_data, aggregator_text, granularity_text}
use Rattle.druid_query.specs.Asked.{Asked, asked_data}
use Rattle.druid_query.specs.SubQuery.{SubQuery, IsAsked, pieces_data, segments_data, sub_timeseries_data, sub_group_by_data, kinded_sub_data, subquery_data, subquery_text}
use Rattle.druid_query.specs.declared.query_type.QueryType.{QueryType}
use Rattle.druid_query.specs.declared.query_type.QueryType.TheVariants.{Timeseries, GroupBy}
use Rattle.druid_query_text.proofs.DepthLemmas.{subquery_deep}
use Rattle.druid_partial.specs.Groups.{Group}
use Rattle.druid_partial_text.specs.Written.{number_data, group_data, IsHeld}
use Rattle.druid_partial_text.specs.Answers.{answer_data}
use Rattle.druid_partial_text.specs.Missed.{IsOfSegment}
use Rattle.druid_partial_text.proofs.TextBackLemmas.{bucket_fits}
use Rattle.druid_segment_text.proofs.WrittenLemmas.{read_tokens, compact_tokens, outline_deep, IsBack, AreBack, items_back, any_items_back, one_more_back}
use Rattle.druid_partial_text.proofs.AnswerTextLemmas.{answer_read}

-- ---- subqueries

value_back : (v : Option (List ℕ)) → IsBack (value_data v)
value_back None = (tt, refl)
value_back (Some text) = (tt, refl)

selector_back : (d : List ℕ) (v : Option (List ℕ)) → IsBack (selector_data d v)
unfolding selector_data
selector_back d v = let back = value_back v in ((tt, (tt, (back.0, tt))), rw back.1 refl)

among_back : (d : List ℕ) (vs : List (Option (List ℕ))) → IsBack (among_data d vs)
unfolding among_data
among_back d vs = let back = any_items_back value_data value_back vs in ((tt, (tt, (back.0, tt))), rw back.1 refl)

fields_back : (kind : List ℕ) (fs : Items) → AreBack fs → IsBack (fields_data kind fs)
unfolding fields_data
fields_back kind fs back = ((back.0, (tt, tt)), rw back.1 refl)

not_back : (d : Data) → IsBack d → IsBack (not_data d)
unfolding not_data
not_back d back = ((back.0, (tt, tt)), rw back.1 refl)

mutual
  filter_back : (c : Condition) → IsBack (filter_data c)
  filter_back (has d v) = selector_back d v
  filter_back (has_among d vs) = among_back d vs
  filter_back (all_of cs) = fields_back (codes "and") (filters_data cs) (filters_back cs)
  filter_back (any_of cs) = fields_back (codes "or") (filters_data cs) (filters_back cs)
  filter_back (is_not c) = not_back (filter_data c) (filter_back c)

  filters_back : (cs : Conditions) → AreBack (filters_data cs)
  filters_back no_conditions = (tt, refl)
  filters_back (condition c cs) = one_more_back (filter_data c) (filters_data cs) (filter_back c) (filters_back cs)

wanted_back : (o : Option Condition) → IsBack (wanted_data o)
wanted_back None = (tt, refl)
wanted_back (Some c) = filter_back c

dimension_back : (d : Dimension) → IsBack (dimension_data d)
unfolding dimension_data
dimension_back d = ((tt, (tt, (tt, tt))), refl)

fielded_back : (kind name : List ℕ) (field : Option (List ℕ)) → IsBack (fielded_data kind name field)
unfolding counting_data of_field_data
fielded_back kind name None = ((tt, (tt, tt)), refl)
fielded_back kind name (Some field) = ((tt, (tt, (tt, tt))), refl)

aggregator_back : (a : Aggregator) → IsBack (aggregator_data a)
aggregator_back a = fielded_back (aggregator_text a.kind) a.name a.field

interval_back : (e : Extent) → IsBack (interval_data e)
interval_back e = (tt, refl)

asked_back : (a : Asked) → IsOfSegment a → IsBack (asked_data a)
unfolding asked_data
asked_back a id =
    let part = number_of-decimal a.0.partition (omega (arith, id.identified.partition)) in
    ((tt, (tt, (IsNumber-decimal a.0.partition (omega (arith, id.identified.partition)), (tt, tt)))), rw part refl)

pieces_back : (asked : List Asked) → ((a : Asked) → Contains asked a → IsOfSegment a) → AreBack (pieces_data asked)
pieces_back asked of_segments = items_back asked_data IsOfSegment asked_back asked of_segments

segments_back : (asked : List Asked) → ((a : Asked) → Contains asked a → IsOfSegment a) → IsBack (segments_data asked)
unfolding segments_data
segments_back asked of_segments = let back = pieces_back asked of_segments in ((back.0, (tt, tt)), rw back.1 refl)

timeseries_back : (aggregations : Items) (source : List ℕ) (filter : Data) (granularity : List ℕ) (segments : Data) (intervals : Items)
    → AreBack aggregations → IsBack filter → IsBack segments → AreBack intervals → IsBack (sub_timeseries_data aggregations source filter granularity segments intervals)
unfolding sub_timeseries_data
timeseries_back aggregations source filter granularity segments intervals a f s i =
    ((a.0, (tt, (f.0, (tt, (s.0, (i.0, (tt, tt))))))), rw (a.1, f.1, s.1, i.1) refl)

group_by_back : (aggregations : Items) (source : List ℕ) (dimensions : Items) (filter : Data) (granularity : List ℕ) (segments : Data) (intervals : Items)
    → AreBack aggregations → AreBack dimensions → IsBack filter → IsBack segments → AreBack intervals
    → IsBack (sub_group_by_data aggregations source dimensions filter granularity segments intervals)
unfolding sub_group_by_data
group_by_back aggregations source dimensions filter granularity segments intervals a d f s i =
    ((a.0, (tt, (d.0, (f.0, (tt, (s.0, (i.0, (tt, tt)))))))), rw (a.1, d.1, f.1, s.1, i.1) refl)

kinded_back : (k : QueryType) (q : Query) (segments : Data) → IsBack segments → IsBack (kinded_sub_data k q segments)
kinded_back Timeseries q segments s =
    timeseries_back _ q.source _ (granularity_text q.granularity) segments _
    (any_items_back aggregator_data aggregator_back q.aggregations) (wanted_back q.filter) s (any_items_back interval_data interval_back q.intervals)
kinded_back GroupBy q segments s =
    group_by_back _ q.source _ _ (granularity_text q.granularity) segments _
    (any_items_back aggregator_data aggregator_back q.aggregations) (any_items_back dimension_data dimension_back q.dimensions) (wanted_back q.filter) s
    (any_items_back interval_data interval_back q.intervals)

-- the text of a subquery is read as its JSON
pub subquery_read : (sub : SubQuery) → IsQuery sub.query → IsAsked sub.query.source sub.asked → read (subquery_text sub) ≡ Some (subquery_data sub)
subquery_read sub is asked =
    let back = kinded_back sub.query.kind sub.query (segments_data sub.asked) (segments_back sub.asked (λ a there. record { identified = (asked.valid a there).0 })) in
    read_tokens (subquery_data sub) (subquery_text sub) (compact_tokens (subquery_data sub) back.0) back.1
    (omega (arith, outline_deep (subquery_data sub), subquery_deep sub is))

-- ---- answers of nodes

integer_numbers : (z : ℤ) → FitsSigned w64 z → tree.HasNumbers (outline (number (of_integer z)))
integer_numbers (pos n) fits = IsNumber-decimal n (omega (arith, ints))
integer_numbers (negsuc n) fits = IsNumber-signed_decimal (negsuc n) (omega (arith, ints))

number_numbers : (x : Option ℤ) → IfSome x (FitsSigned w64) → tree.HasNumbers (outline (number_data x))
number_numbers None fits = tt
number_numbers (Some z) fits = integer_numbers z fits

items_numbers : {A : Type 0} (f : A → Data) (P : A → Type 0) → ((x : A) → P x → tree.HasNumbers (outline (f x))) → (xs : List A) → All P xs
    → tree.ItemsHaveNumbers (items_outline (items_of (map f xs)))
items_numbers f P one [] all = tt
items_numbers f P one (x ∷ xs) all = (one x (All-head P x xs all), items_numbers f P one xs (All-tail P x xs all))

group_numbers : (g : Group) → IsHeld g → tree.HasNumbers (outline (group_data g))
group_numbers g held = (
  integer_numbers _ (bucket_fits g.key.bucket held.bucket),
  (
    (any_items_back value_data value_back g.key.values).0,
    (items_numbers number_data (λ x. IfSome x (FitsSigned w64)) number_numbers g.numbers held.words, tt),
  ),
)

-- the text of an answer is read as its JSON
pub answer_text_read : (missing : List Asked) (groups : List Group) → All IsOfSegment missing → All IsHeld groups
    → read (compact_text (answer_data missing groups)) ≡ Some (answer_data missing groups)
answer_text_read missing groups ids held =
    answer_read missing groups (compact_text (answer_data missing groups)) ids held
    (compact_tokens (answer_data missing groups) (
      (items_back asked_data IsOfSegment asked_back missing (λ a there. All-contains IsOfSegment missing a ids there)).0,
      (items_numbers group_data IsHeld group_numbers groups held, tt),
    ))
