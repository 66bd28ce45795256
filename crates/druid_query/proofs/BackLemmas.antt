-- The fields of a query as JSON: what is written is read back.
use Rattle.std.proofs.Common.{◌≡◌, ℕ, List, [], ◌∷◌, map, codes, Option, Some, None, is_some, true, false, refl, ap}
use Rattle.std.specs.Result.{result_ok}
use Rattle.serde_json.specs.Data.{Data, string, Items, no_items, item}
use Rattle.serde_json.specs.View.{items_of}
use Rattle.serde_json.specs.Find.{as_null, as_str}
use Rattle.druid_time.specs.Extent.{Extent, IsExtent}
use Rattle.druid_base.specs.Options.{◌>>=◌}
use Rattle.druid_time.specs.Texts.{extent_text}
use Rattle.druid_time.specs.declared.granularity.Granularity.{Granularity}
use Rattle.druid_time.specs.declared.granularity.Granularity.TheVariants.{All, Second, Minute, Hour, Day}
use Rattle.druid_time.proofs.TextLemmas.{extent_at-extent_text}
use Rattle.druid_filter.specs.Filters.{Condition, has, has_among, all_of, any_of, is_not, Conditions, no_conditions, condition}
use Rattle.druid_query.specs.Query.{Dimension, Aggregator}
use Rattle.druid_base.specs.Each.{each_of}
use Rattle.druid_base.proofs.EachLemmas.{each_back}
use Rattle.druid_base.specs.Fields.{text_or_null}
use Rattle.druid_query.specs.Filters.{selector_in, among_in, filter_at, each_filter}
use Rattle.druid_query.specs.Fields.{granularity_of, interval_of, dimension_at, default_dimension, aggregator_at}
use Rattle.druid_query.specs.Written.{value_data, selector_data, among_data, fields_data, not_data, filter_data, filters_data, granularity_text, interval_data, dimension_data, counting_data, of_field_data, fielded_data, aggregator_data, aggregator_text}
use Rattle.druid_query.specs.declared.aggregator.AggregatorKind.{AggregatorKind}
use Rattle.druid_query.specs.declared.aggregator.AggregatorKind.TheVariants.{Count, LongSum, LongMin, LongMax}

-- each of a list of what any value reads back as
any_back : {A : Type 0} (f : A → Data) (g : Data → Option A) (xs : List A) → ((x : A) → g (f x) ≡ Some x) → each_of g (items_of (map f xs)) ≡ Some xs
any_back f g xs back = each_back f g xs (λ x _. back x)

-- ---- filters

pub value_back : (v : Option (List ℕ)) → text_or_null (value_data v) ≡ Some v
unfolding text_or_null
value_back None = refl
value_back (Some t) = refl

selector_back : (d : List ℕ) (v : Option (List ℕ)) → filter_at (selector_data d v) ≡ Some (has d v)
unfolding filter_at selector_data selector_in
selector_back d v = let back = value_back v in rw back refl

among_back : (d : List ℕ) (vs : List (Option (List ℕ))) → filter_at (among_data d vs) ≡ Some (has_among d vs)
unfolding filter_at among_data among_in
among_back d vs = let back = any_back value_data text_or_null vs value_back in rw back refl

and_back : (fs : Items) (cs : Conditions) → each_filter fs ≡ Some cs → filter_at (fields_data (codes "and") fs) ≡ Some (all_of cs)
unfolding filter_at fields_data
and_back fs cs h = rw h refl

or_back : (fs : Items) (cs : Conditions) → each_filter fs ≡ Some cs → filter_at (fields_data (codes "or") fs) ≡ Some (any_of cs)
unfolding filter_at fields_data
or_back fs cs h = rw h refl

not_back : (d : Data) (c : Condition) → filter_at d ≡ Some c → filter_at (not_data d) ≡ Some (is_not c)
unfolding filter_at not_data
not_back d c h = rw h refl

none_back : each_filter no_items ≡ Some no_conditions
unfolding filter_at
none_back = refl

next_back : (d : Data) (ds : Items) (c : Condition) (cs : Conditions) → filter_at d ≡ Some c → each_filter ds ≡ Some cs → each_filter (item d ds) ≡ Some (condition c cs)
unfolding filter_at
next_back d ds c cs h k = rw (h, k) refl

mutual
  pub filter_back : (c : Condition) → filter_at (filter_data c) ≡ Some c
  filter_back (has d v) = selector_back d v
  filter_back (has_among d vs) = among_back d vs
  filter_back (all_of cs) = and_back (filters_data cs) cs (filters_back cs)
  filter_back (any_of cs) = or_back (filters_data cs) cs (filters_back cs)
  filter_back (is_not c) = not_back (filter_data c) c (filter_back c)

  pub filters_back : (cs : Conditions) → each_filter (filters_data cs) ≡ Some cs
  filters_back no_conditions = none_back
  filters_back (condition c cs) = next_back (filter_data c) (filters_data cs) c cs (filter_back c) (filters_back cs)

pub filter_no_null : (c : Condition) → is_some (as_null (filter_data c)) ≡ false
unfolding selector_data among_data fields_data not_data
filter_no_null (has d v) = refl
filter_no_null (has_among d vs) = refl
filter_no_null (all_of cs) = refl
filter_no_null (any_of cs) = refl
filter_no_null (is_not c) = refl

-- ---- the other fields

pub granularity_back : (g : Granularity) → granularity_of (string (granularity_text g)) ≡ Some g
unfolding granularity_of
granularity_back All = refl
granularity_back Second = refl
granularity_back Minute = refl
granularity_back Hour = refl
granularity_back Day = refl

pub interval_back : (e : Extent) → IsExtent e → interval_of (interval_data e) ≡ Some e
interval_back e valid = ap result_ok (extent_at-extent_text e valid)

pub texts_back : (es : List Extent) → is_some (each_of as_str (items_of (map interval_data es))) ≡ true
texts_back [] = refl
texts_back (e ∷ es) = next (each_of as_str (items_of (map interval_data es))) (texts_back es)
  where
    next : (o : Option (List (List ℕ))) → is_some o ≡ true → is_some (o >>= λ ys. Some (extent_text e ∷ ys)) ≡ true
    next None h = absurd (cc)
    next (Some ys) h = refl

pub dimension_back : (d : Dimension) → dimension_at (dimension_data d) ≡ Some d
unfolding dimension_at default_dimension dimension_data
dimension_back d = refl

pub dimensions_back : (ds : List Dimension) → each_of dimension_at (items_of (map dimension_data ds)) ≡ Some ds
dimensions_back ds = any_back dimension_data dimension_at ds dimension_back

-- an aggregator has a field where its kind takes one
abbrev pub Fits : AggregatorKind → Option (List ℕ) → Type 0
Fits Count None = Unit {0}
Fits Count (Some field) = ⊥
Fits LongSum None = ⊥
Fits LongSum (Some field) = Unit {0}
Fits LongMin None = ⊥
Fits LongMin (Some field) = Unit {0}
Fits LongMax None = ⊥
Fits LongMax (Some field) = Unit {0}

fielded_back : (kind : AggregatorKind) (name : List ℕ) (field : Option (List ℕ)) → Fits kind field
    → aggregator_at (fielded_data (aggregator_text kind) name field) ≡ Some (record { name = name; kind = kind; field = field })
unfolding aggregator_at counting_data of_field_data
fielded_back Count name None h = refl
fielded_back Count name (Some field) h = absurd h
fielded_back LongSum name None h = absurd h
fielded_back LongSum name (Some field) h = refl
fielded_back LongMin name None h = absurd h
fielded_back LongMin name (Some field) h = refl
fielded_back LongMax name None h = absurd h
fielded_back LongMax name (Some field) h = refl

pub aggregator_back : (a : Aggregator) → Fits a.kind a.field → aggregator_at (aggregator_data a) ≡ Some a
aggregator_back a h = fielded_back a.kind a.name a.field h
