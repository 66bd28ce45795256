-- Queries as JSON: what is written is read back.
use Rattle.std.proofs.Common.{◌≡◌, ℕ, List, [], ◌∷◌, codes, Option, Some, None, option_and_then, Result, Ok, Err, is_some, Contains, if◌then◌else◌, true, false, Bool, refl, sym, ap, ◌∙◌, subst}
use Rattle.serde_json.specs.Data.{Data, string, array, Items}
use Rattle.serde_json.specs.Find.{get, as_null}
use Rattle.druid_time.specs.Extent.{Extent, IsExtent}
use Rattle.druid_time.specs.Results.{◌>>=◌}
use Rattle.druid_time.specs.declared.granularity.Granularity.{Granularity}
use Rattle.druid_segment_id.specs.Names.{is_name}
use Rattle.druid_filter.specs.Filters.{Condition}
use Rattle.druid_query.specs.Query.{Query, Dimension, Aggregator, result_names, is_label, fits_filter, fit_dimensions, fit_aggregators}
use Rattle.druid_base.specs.Distinct.{are_distinct}
use Rattle.druid_query.specs.Refusal.{Refusal, bad_field, bad_interval, limit_passed, or_refuse, when}
use Rattle.druid_base.specs.Each.{each_of}
use Rattle.druid_base.proofs.EachLemmas.{each_back, each_sound}
use Rattle.druid_query.specs.Filters.{filter_at}
use Rattle.druid_query.specs.Fields.{kind_at, source_text, interval_texts, interval_of, items_or_none, dimension_at, aggregator_at}
use Rattle.druid_query.specs.Read.{list_of, fit_intervals, source_at, granularity_at, intervals_at, wanted_filter, filter_or_none, filter_field, listed_dimensions, dimensions_at, aggregations_at, no_more_at, query_at, IsQuery}
use Rattle.druid_query.specs.Written.{wanted_data, granularity_text, interval_data, dimensions_data, aggregations_data, intervals_data, aggregator_data, timeseries_data, group_by_data, kinded_data, query_data}
use Rattle.druid_query.specs.declared.query_type.QueryType.{QueryType}
use Rattle.druid_query.specs.declared.query_type.QueryType.TheVariants.{Timeseries, GroupBy}
use Rattle.druid_query.proofs.BackLemmas.{filter_back, filter_no_null, granularity_back, interval_back, texts_back, dimensions_back, aggregator_back, Fits}
use Rattle.druid_query.proofs.SoundLemmas.{interval_sound, HasItem, texts_item, IsSomeList, read_some, aggregator_sound}
use Rattle.druid_query.proofs.PartLemmas.{query_whole, parts_whole}
use Rattle.druid_query.proofs.ChainLemmas.{same_ok}

-- ---- what a part that was read tells

pub when_true : {A : Type 0} (b : Bool) (x y : A) (e : Refusal) → when b x e ≡ Ok y → (b ≡ true) × (x ≡ y)
when_true {A} true x y e h = (refl, same_Ok x y h)
  where
    same_Ok : (p q : A) → ◌≡◌ {A = Result A Refusal} (Ok p) (Ok q) → p ≡ q
    same_Ok p q e' = cc
when_true false x y e h = absurd (cc)

pub list_reports : {A : Type 0} (o : Option Items) (shape each : Refusal) (f : Data → Option A) (fits : List A → Bool) (all : List A) → list_of o shape f each fits ≡ Ok all
    → (ds : Items) × (o ≡ Some ds) × (each_of f ds ≡ Some all) × (fits all ≡ true)
list_reports None shape each f fits all h = absurd (cc)
list_reports {A} (Some ds) shape each f fits all h = let r = through (each_of f ds) h in (ds, refl, r.0, r.1)
  where
    through : (o : Option (List A)) → (or_refuse o each >>= λ xs. when (fits xs) xs limit_passed) ≡ Ok all → (o ≡ Some all) × (fits all ≡ true)
    through None h = absurd (cc)
    through (Some xs) h = let w = when_true (fits xs) xs all limit_passed h in (ap Some w.1, ap fits (sym w.1) ∙ w.0)

pub source_reports : (d : Data) (s : List ℕ) → source_at d ≡ Ok s → is_name s ≡ true
unfolding source_at
source_reports d s h = through (option_and_then source_text (get (codes "dataSource") d)) h
  where
    named : (x : List ℕ) (b : Bool) (e : Refusal) → is_name x ≡ b → (if b then Ok x else Err e) ≡ Ok s → is_name s ≡ true
    named x true e is h = ap is_name (sym (same x s h)) ∙ is
      where
        same : (p q : List ℕ) → ◌≡◌ {A = Result (List ℕ) Refusal} (Ok p) (Ok q) → p ≡ q
        same p q e' = cc
    named x false e is h = absurd (cc)

    through : (o : Option (List ℕ)) → (or_refuse o (bad_field (codes "dataSource")) >>= λ text. if is_name text then Ok text else Err (if is_label text then bad_field (codes "dataSource") else limit_passed)) ≡ Ok s → is_name s ≡ true
    through None h = absurd (cc)
    through (Some x) h = named x (is_name x) (if is_label x then bad_field (codes "dataSource") else limit_passed) refl h

pub record Timed (all : List Extent) : Type 0 where
  pub some : IsSomeList all
  pub each : (e : Extent) → Contains all e → IsExtent e
  pub few : fit_intervals all ≡ true

-- whichever way the texts are found
pub times_report : (texts : Data → Option Items) (shape : Refusal) (o : Option Data) (all : List Extent) → ((e : Data) (ds : Items) → texts e ≡ Some ds → HasItem ds)
    → list_of (option_and_then texts o) shape interval_of bad_interval fit_intervals ≡ Ok all → Timed all
times_report texts shape o all item h =
    let t = list_reports (option_and_then texts o) shape bad_interval interval_of fit_intervals all h in
    record {
      some = read_some interval_of t.0 all (item_of o t.0 t.1) t.2;
      each = each_sound IsExtent interval_of interval_sound t.0 all t.2;
      few = t.3;
    }
  where
    item_of : (o : Option Data) (ds : Items) → option_and_then texts o ≡ Some ds → HasItem ds
    item_of None ds h = absurd (cc)
    item_of (Some e) ds h = item e ds h

intervals_report : (d : Data) (all : List Extent) → intervals_at d ≡ Ok all → Timed all
unfolding intervals_at
intervals_report d all h = times_report interval_texts (bad_field (codes "intervals")) (get (codes "intervals") d) all texts_item h

abbrev pub Passes : Option Condition → Type 0
Passes None = Unit {0}
Passes (Some c) = fits_filter c ≡ true

pub filter_reports : (d : Data) (f : Option Condition) → filter_field d ≡ Ok f → Passes f
unfolding filter_field wanted_filter
filter_reports d f h = at (get (codes "filter") d) h
  where
    same : (p q : Option Condition) → ◌≡◌ {A = Result (Option Condition) Refusal} (Ok p) (Ok q) → p ≡ q
    same p q e' = cc

    wanted : (o : Option Condition) → (or_refuse o (bad_field (codes "filter")) >>= λ c. when (fits_filter c) (Some c) limit_passed) ≡ Ok f → Passes f
    wanted None h = absurd (cc)
    wanted (Some c) h = let w = when_true (fits_filter c) (Some c) f limit_passed h in subst Passes w.1 w.0

    nullable : (e : Data) (b : Bool) → (if b then Ok None else wanted_filter e) ≡ Ok f → Passes f
    nullable e true h = subst Passes (same None f h) tt
    nullable e false h = wanted (filter_at e) h

    at : (o : Option Data) → filter_or_none o ≡ Ok f → Passes f
    at None h = subst Passes (same None f h) tt
    at (Some e) h = nullable e (is_some (as_null e)) h

pub record Counted (all : List Aggregator) : Type 0 where
  each : (a : Aggregator) → Contains all a → Fits a.kind a.field
  few : fit_aggregators all ≡ true

aggregations_report : (d : Data) (all : List Aggregator) → aggregations_at d ≡ Ok all → Counted all
unfolding aggregations_at
aggregations_report d all h =
    let t = list_reports (items_or_none (get (codes "aggregations") d)) (bad_field (codes "aggregations")) (bad_field (codes "aggregations")) aggregator_at fit_aggregators all h in
    record { each = each_sound (λ a. Fits a.kind a.field) aggregator_at aggregator_sound t.0 all t.2; few = t.3 }

dimensions_report : (d : Data) (all : List Dimension) → listed_dimensions d ≡ Ok all → fit_dimensions all ≡ true
unfolding listed_dimensions
dimensions_report d all h =
    (list_reports (items_or_none (get (codes "dimensions") d)) (bad_field (codes "dimensions")) (bad_field (codes "dimensions")) dimension_at fit_dimensions all h).3

-- ---- what is written is read

pub list_read : {A : Type 0} (ds : Items) (shape each : Refusal) (f : Data → Option A) (fits : List A → Bool) (all : List A) → each_of f ds ≡ Some all → fits all ≡ true → list_of (Some ds) shape f each fits ≡ Ok all
list_read ds shape each f fits all read good =
    ap (λ o. or_refuse o each >>= λ xs. when (fits xs) xs limit_passed) read ∙ ap (λ b. when b all limit_passed) good

source_read : (d : Data) (s : List ℕ) → get (codes "dataSource") d ≡ Some (string s) → is_name s ≡ true → source_at d ≡ Ok s
unfolding source_at source_text
source_read d s h good = rw (h, good) refl

granularity_read : (d : Data) (g : Granularity) → get (codes "granularity") d ≡ Some (string (granularity_text g)) → granularity_at d ≡ Ok g
unfolding granularity_at
granularity_read d g h = let back = granularity_back g in rw (h, back) refl

texts_read : (all : List Extent) → IsSomeList all → interval_texts (array (intervals_data all)) ≡ Some (intervals_data all)
unfolding interval_texts
texts_read [] some = absurd some
texts_read (e ∷ es) some = let all = texts_back (e ∷ es) in rw all refl

pub times_read : (texts : Data → Option Items) (shape : Refusal) (o : Option Data) (all : List Extent) → o ≡ Some (array (intervals_data all)) → texts (array (intervals_data all)) ≡ Some (intervals_data all) → Timed all
    → list_of (option_and_then texts o) shape interval_of bad_interval fit_intervals ≡ Ok all
times_read texts shape o all h back t =
    ap (λ o'. list_of (option_and_then texts o') shape interval_of bad_interval fit_intervals) h
    ∙ ap (λ o'. list_of o' shape interval_of bad_interval fit_intervals) back
    ∙ list_read (intervals_data all) shape bad_interval interval_of fit_intervals all (each_back interval_data interval_of all (λ e there. interval_back e (t.each e there))) t.few

intervals_read : (d : Data) (all : List Extent) → get (codes "intervals") d ≡ Some (array (intervals_data all)) → Timed all → intervals_at d ≡ Ok all
unfolding intervals_at
intervals_read d all h t = times_read interval_texts (bad_field (codes "intervals")) (get (codes "intervals") d) all h (texts_read all t.some) t

filter_read : (d : Data) (f : Option Condition) → get (codes "filter") d ≡ Some (wanted_data f) → Passes f → filter_field d ≡ Ok f
unfolding filter_field wanted_filter
filter_read d None h good = rw h refl
filter_read d (Some c) h good =
    let back = filter_back c in
    let object = filter_no_null c in
    ap filter_or_none h ∙ rw (object, back, good) refl

aggregations_read : (d : Data) (all : List Aggregator) → get (codes "aggregations") d ≡ Some (array (aggregations_data all)) → Counted all → aggregations_at d ≡ Ok all
unfolding aggregations_at
aggregations_read d all h t =
    ap (λ o. list_of (items_or_none o) (bad_field (codes "aggregations")) aggregator_at (bad_field (codes "aggregations")) fit_aggregators) h
    ∙ list_read (aggregations_data all) (bad_field (codes "aggregations")) (bad_field (codes "aggregations")) aggregator_at fit_aggregators all (each_back aggregator_data aggregator_at all (λ a there. aggregator_back a (t.each a there))) t.few

dimensions_read : (d : Data) (all : List Dimension) → get (codes "dimensions") d ≡ Some (array (dimensions_data all)) → fit_dimensions all ≡ true → listed_dimensions d ≡ Ok all
unfolding listed_dimensions
dimensions_read d all h good =
    ap (λ o. list_of (items_or_none o) (bad_field (codes "dimensions")) dimension_at (bad_field (codes "dimensions")) fit_dimensions) h
    ∙ list_read (dimensions_data all) (bad_field (codes "dimensions")) (bad_field (codes "dimensions")) dimension_at fit_dimensions all (dimensions_back all) good

pub no_both : Timeseries ≡ GroupBy → ⊥
no_both h = cc

-- ---- the whole

-- a `timeseries` has no dimensions
abbrev pub FitKind : QueryType → List Dimension → Type 0
FitKind Timeseries all = all ≡ []
FitKind GroupBy all = fit_dimensions all ≡ true

kind_reports : (k : QueryType) (d : Data) (all : List Dimension) → dimensions_at k d ≡ Ok all → FitKind k all
kind_reports Timeseries d all h = sym (same_ok [] all h)
kind_reports GroupBy d all h = dimensions_report d all h

kind_read : (k : QueryType) (d : Data) (all : List Dimension) → (k ≡ GroupBy → get (codes "dimensions") d ≡ Some (array (dimensions_data all))) → FitKind k all → dimensions_at k d ≡ Ok all
kind_read Timeseries d all h good = ap Ok (sym good)
kind_read GroupBy d all h good = dimensions_read d all (h refl) good

-- each part of a query is within its limits
pub record IsSound (q : Query) : Type 0 where
  pub source : is_name q.source ≡ true
  pub times : Timed q.intervals
  pub filter : Passes q.filter
  pub dimensions : FitKind q.kind q.dimensions
  pub aggregations : Counted q.aggregations
  pub distinct : are_distinct (result_names q.dimensions q.aggregations) ≡ true

pub sound_of : (d : Data) (q : Query) → source_at d ≡ Ok q.source → Timed q.intervals → filter_field d ≡ Ok q.filter → dimensions_at q.kind d ≡ Ok q.dimensions → aggregations_at d ≡ Ok q.aggregations
    → are_distinct (result_names q.dimensions q.aggregations) ≡ true → IsSound q
sound_of d q a t h j l distinct = record {
  source = source_reports d q.source a;
  times = t;
  filter = filter_reports d q.filter h;
  dimensions = kind_reports q.kind d q.dimensions j;
  aggregations = aggregations_report d q.aggregations l;
  distinct = distinct;
}

pub query_sound : (q : Query) → IsQuery q → IsSound q
query_sound q (d, read) =
    let p = parts_whole d q read in
    sound_of d q p.source (intervals_report d q.intervals p.intervals) p.filter p.dimensions p.aggregations p.distinct

-- the keys of the written JSON, but for the intervals
pub record Keys (d : Data) (q : Query) : Type 0 where
  pub kind : Some q.kind ≡ kind_at d
  pub source : get (codes "dataSource") d ≡ Some (string q.source)
  pub granularity : get (codes "granularity") d ≡ Some (string (granularity_text q.granularity))
  pub filter : get (codes "filter") d ≡ Some (wanted_data q.filter)
  pub dimensions : q.kind ≡ GroupBy → get (codes "dimensions") d ≡ Some (array (dimensions_data q.dimensions))
  pub aggregations : get (codes "aggregations") d ≡ Some (array (aggregations_data q.aggregations))
  pub more : no_more_at d ≡ Ok tt

-- the parts that are read of them
pub record Back (d : Data) (q : Query) : Type 0 where
  pub source : source_at d ≡ Ok q.source
  pub granularity : granularity_at d ≡ Ok q.granularity
  pub filter : filter_field d ≡ Ok q.filter
  pub dimensions : dimensions_at q.kind d ≡ Ok q.dimensions
  pub aggregations : aggregations_at d ≡ Ok q.aggregations

pub keys_back : (d : Data) (q : Query) → Keys d q → IsSound q → Back d q
keys_back d q keys sound = record {
  source = source_read d q.source keys.source sound.source;
  granularity = granularity_read d q.granularity keys.granularity;
  filter = filter_read d q.filter keys.filter sound.filter;
  dimensions = kind_read q.kind d q.dimensions keys.dimensions sound.dimensions;
  aggregations = aggregations_read d q.aggregations keys.aggregations sound.aggregations;
}

timeseries_keys : (q : Query) (intervals : Data) → q.kind ≡ Timeseries → Keys (kinded_data Timeseries q intervals) q
unfolding timeseries_data kind_at no_more_at
timeseries_keys q intervals is = record { kind = ap Some is; source = refl; granularity = refl; filter = refl; dimensions = λ other. absurd (no_both (sym is ∙ other)); aggregations = refl; more = refl }

group_by_keys : (q : Query) (intervals : Data) → q.kind ≡ GroupBy → Keys (kinded_data GroupBy q intervals) q
unfolding group_by_data kind_at no_more_at
group_by_keys q intervals is = record { kind = ap Some is; source = refl; granularity = refl; filter = refl; dimensions = λ _. refl; aggregations = refl; more = refl }

query_keys : (k : QueryType) (q : Query) → q.kind ≡ k → Keys (kinded_data k q (array (intervals_data q.intervals))) q
query_keys Timeseries q is = timeseries_keys q (array (intervals_data q.intervals)) is
query_keys GroupBy q is = group_by_keys q (array (intervals_data q.intervals)) is

intervals_there : (k : QueryType) (q : Query) (intervals : Data) → get (codes "intervals") (kinded_data k q intervals) ≡ Some intervals
unfolding timeseries_data group_by_data
intervals_there Timeseries q intervals = refl
intervals_there GroupBy q intervals = refl

pub sound_back : (q : Query) → IsSound q → query_at (query_data q) ≡ Ok q
sound_back q sound =
    let d = query_data q in
    let keys = query_keys q.kind q refl in
    let back = keys_back d q keys sound in
    query_whole d q keys.kind back.source back.granularity (intervals_read d q.intervals (intervals_there q.kind q (array (intervals_data q.intervals))) sound.times) back.filter back.dimensions back.aggregations
    keys.more sound.distinct

pub query_back : (q : Query) → IsQuery q → query_at (query_data q) ≡ Ok q
query_back q is = sound_back q (query_sound q is)
