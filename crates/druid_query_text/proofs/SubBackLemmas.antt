-- Subqueries as JSON: what is written is read back.
use Rattle.std.proofs.Common.{◌≡◌, ℕ, List, [], ◌∷◌, map, codes, Contains, Option, Some, None, Ok, is_some, option_and_then, true, Bool, refl, sym, ap, ◌∙◌, subst, arith}
use Rattle.serde_json.specs.Data.{Data, array, Items}
use Rattle.serde_json.specs.Find.{get}
use Rattle.serde_json.specs.View.{items_of}
use Rattle.druid_time.specs.Extent.{Extent, IsExtent}
use Rattle.druid_base.specs.Options as options
use Rattle.druid_time.specs.Results.{◌>>=◌}
use Rattle.druid_segment_id.specs.Identifier.{IsIdentifier}
use Rattle.druid_base.specs.Each.{each_of}
use Rattle.druid_base.proofs.EachLemmas.{each_back}
use Rattle.druid_base.proofs.MemberLemmas.{Contains-later, Contains-nil}
use Rattle.druid_query.specs.Query.{Query, query_of, result_names}
use Rattle.druid_base.specs.Distinct.{are_distinct}
use Rattle.druid_query.specs.Asked.{Asked, StandApart, stand_apart, asked_data, spelled_at, inside_at, asked_items}
use Rattle.druid_query.specs.Refusal.{bad_field, bad_interval, or_refuse, when}
use Rattle.druid_query.specs.Fields.{kind_at, listed_texts}
use Rattle.druid_query.specs.Read.{no_more_at, IsQuery}
use Rattle.druid_query.specs.SubQuery.{SubQuery, IsAsked, pieces_at, apart_at, query_intervals_at, span_at, subquery_at, sub_timeseries_data, sub_group_by_data, pieces_data, segments_data, kinded_sub_data, subquery_data}
use Rattle.druid_query.specs.Written.{intervals_data}
use Rattle.druid_query.specs.declared.query_type.QueryType.{QueryType}
use Rattle.druid_query.specs.declared.query_type.QueryType.TheVariants.{Timeseries, GroupBy}
use Rattle.druid_query.proofs.AskedLemmas.{apart_reported}
use Rattle.druid_query.proofs.ChainLemmas.{parts_made, whole_read, whole_bound, steps_of}
use Rattle.druid_query_slice_text.proofs.BackLemmas.{spelled_some, inside_back}
use Rattle.druid_query_text.proofs.SubLemmas.{subs, of_sub, span_bound}
use Rattle.druid_query.proofs.BackLemmas.{texts_back}
use Rattle.druid_query.proofs.SoundLemmas.{HasItem, bound_item, IsSomeList}
use Rattle.serde_json.specs.Find.{as_array}
use Rattle.druid_query_text.proofs.QueryBackLemmas.{Timed, Keys, keys_back, query_sound, sound_of, sound_back, times_report, times_read, no_both}

-- ---- the pieces

next_some : {A : Type 0} (o : Option A) (r : Option (List A)) → is_some o ≡ true → is_some r ≡ true → is_some (options.◌>>=◌ o (λ y. options.◌>>=◌ r (λ ys. Some (y ∷ ys)))) ≡ true
next_some None r h k = absurd (cc)
next_some (Some y) None h k = absurd (cc)
next_some (Some y) (Some ys) h k = refl

each_some : {A B : Type 0} (f : A → Data) (g : Data → Option B) (xs : List A) → ((x : A) → Contains xs x → is_some (g (f x)) ≡ true) → is_some (each_of g (items_of (map f xs))) ≡ true
each_some f g [] all = refl
each_some f g (x ∷ xs) all =
    next_some (g (f x)) (each_of g (items_of (map f xs))) (all x (0, omega arith, refl)) (each_some f g xs (λ y there. all y (Contains-later x xs y there)))

items_back : (asked : List Asked) → ((a : Asked) × Contains asked a) → ((a : Asked) → Contains asked a → IsIdentifier a.0 × IsExtent a.1) → asked_items (segments_data asked) ≡ Some (pieces_data asked)
unfolding asked_items segments_data
items_back [] some valid = absurd (Contains-nil some.0 some.1)
items_back (x ∷ xs) some valid =
    let all = each_some asked_data spelled_at (x ∷ xs) (λ a there. spelled_some a (valid a there).0) in
    rw all refl

pieces_read : (source : List ℕ) (d : Data) (asked : List Asked) → get (codes "intervals") d ≡ Some (segments_data asked) → IsAsked source asked → pieces_at source d ≡ Ok asked
unfolding pieces_at
pieces_read source d asked h is =
    ap (λ o. or_refuse (option_and_then asked_items o) (bad_field (codes "intervals")) >>= λ items. or_refuse (each_of (inside_at source) items) bad_interval) h
    ∙ ap (λ o. or_refuse o (bad_field (codes "intervals")) >>= λ items. or_refuse (each_of (inside_at source) items) bad_interval) (items_back asked is.some is.valid)
    ∙ ap (λ o. or_refuse o bad_interval) (each_back asked_data (inside_at source) asked one)
  where
    one : (a : Asked) → Contains asked a → inside_at source (asked_data a) ≡ Some a
    one a there = subst (λ s. inside_at s (asked_data a) ≡ Some a) (is.sources a there) (inside_back a (is.valid a there).0 (is.valid a there).1 (is.inside a there))

apart_read : (source : List ℕ) (d : Data) (asked : List Asked) → pieces_at source d ≡ Ok asked → StandApart asked → apart_at source d ≡ Ok asked
unfolding apart_at
apart_read source d asked h apart = ap (λ r. r >>= λ all. when (stand_apart all) all bad_interval) h ∙ ap (λ (b : Bool). when b asked bad_interval) (apart_reported asked apart)

-- ---- the query's own intervals

listed_back : (all : List Extent) → IsSomeList all → listed_texts (array (intervals_data all)) ≡ Some (intervals_data all)
unfolding listed_texts
listed_back [] some = absurd some
listed_back (e ∷ es) some = let all = texts_back (e ∷ es) in rw all refl

intervals_read : (d : Data) (all : List Extent) → get (codes "queryIntervals") d ≡ Some (array (intervals_data all)) → Timed all → query_intervals_at d ≡ Ok all
unfolding query_intervals_at
intervals_read d all h t = times_read listed_texts (bad_field (codes "queryIntervals")) (get (codes "queryIntervals") d) all h (listed_back all t.some) t

item_of : (d : Data) (ds : Items) → listed_texts d ≡ Some ds → HasItem ds
unfolding listed_texts
item_of d ds h = bound_item (as_array d) ds h

intervals_report : (d : Data) (all : List Extent) → query_intervals_at d ≡ Ok all → Timed all
unfolding query_intervals_at
intervals_report d all h = times_report listed_texts (bad_field (codes "queryIntervals")) (get (codes "queryIntervals") d) all item_of h

span_read : (source : List ℕ) (d : Data) (asked : List Asked) (all : List Extent) → apart_at source d ≡ Ok asked → query_intervals_at d ≡ Ok all → span_at source d ≡ Ok (record { asked = asked; intervals = all })
unfolding span_at
span_read source d asked all a b =
    ap (λ r. r >>= λ pieces. query_intervals_at d >>= λ intervals. Ok (record { asked = pieces; intervals = intervals })) a
    ∙ ap (λ r. r >>= λ intervals. Ok (record { asked = asked; intervals = intervals })) b

-- ---- the whole

timeseries_keys : (q : Query) (segments : Data) → q.kind ≡ Timeseries → Keys (kinded_sub_data Timeseries q segments) q
unfolding sub_timeseries_data kind_at no_more_at
timeseries_keys q segments is = record { kind = ap Some is; source = refl; granularity = refl; filter = refl; dimensions = λ other. absurd (no_both (sym is ∙ other)); aggregations = refl; more = refl }

group_by_keys : (q : Query) (segments : Data) → q.kind ≡ GroupBy → Keys (kinded_sub_data GroupBy q segments) q
unfolding sub_group_by_data kind_at no_more_at
group_by_keys q segments is = record { kind = ap Some is; source = refl; granularity = refl; filter = refl; dimensions = λ _. refl; aggregations = refl; more = refl }

sub_keys : (k : QueryType) (q : Query) (segments : Data) → q.kind ≡ k → Keys (kinded_sub_data k q segments) q
sub_keys Timeseries q segments is = timeseries_keys q segments is
sub_keys GroupBy q segments is = group_by_keys q segments is

segments_there : (k : QueryType) (q : Query) (segments : Data) → get (codes "intervals") (kinded_sub_data k q segments) ≡ Some segments
unfolding sub_timeseries_data sub_group_by_data
segments_there Timeseries q segments = refl
segments_there GroupBy q segments = refl

intervals_there : (k : QueryType) (q : Query) (segments : Data) → get (codes "queryIntervals") (kinded_sub_data k q segments) ≡ Some (array (intervals_data q.intervals))
unfolding sub_timeseries_data sub_group_by_data
intervals_there Timeseries q segments = refl
intervals_there GroupBy q segments = refl

pub sub_back : (sub : SubQuery) → IsQuery sub.query → IsAsked sub.query.source sub.asked → subquery_at (subquery_data sub) ≡ Ok sub
sub_back sub is asked =
    let q = sub.query in
    let d = subquery_data sub in
    let segments = segments_data sub.asked in
    let sound = query_sound q is in
    let keys = sub_keys q.kind q segments refl in
    let back = keys_back d q keys sound in
    let pieces = pieces_read q.source d sub.asked (segments_there q.kind q segments) asked in
    let span = span_read q.source d sub.asked q.intervals (apart_read q.source d sub.asked pieces asked.apart) (intervals_read d q.intervals (intervals_there q.kind q segments) sound.times) in
    sym (of_sub d)
    ∙ whole_read subs d sub (parts_made subs d q.kind q.source q.granularity (record { asked = sub.asked; intervals = q.intervals }) q.filter q.dimensions q.aggregations keys.kind back.source back.granularity span back.filter back.dimensions back.aggregations)
    keys.more sound.distinct

-- the query of a subquery that reads is one
pub sub_query : (d : Data) (sub : SubQuery) → subquery_at d ≡ Ok sub → IsQuery sub.query
sub_query d sub read =
    let whole = whole_bound subs d sub (of_sub d ∙ read) in
    let p = steps_of subs d sub whole.0 in
    let made = ap (λ x. x.query) p.made in
    let distinct : are_distinct (result_names p.dimensions p.aggregations) ≡ true = ap (λ x. are_distinct (result_names x.query.dimensions x.query.aggregations)) p.made ∙ whole.1 in
    let sound = sound_of d (query_of p.kind p.source p.granularity p.times.intervals p.filter p.dimensions p.aggregations) p.source_is
    (intervals_report d p.times.intervals (span_bound p.source d p.times p.times_is).1) p.filter_is p.dimensions_is p.aggregations_is distinct in
    subst IsQuery made (_, sound_back (query_of p.kind p.source p.granularity p.times.intervals p.filter p.dimensions p.aggregations) sound)
