-- The parts of a query, one after another, whatever stands in place of its intervals.
use Rattle.std.proofs.Common.{◌≡◌, ℕ, List, Option, Some, None, Result, Ok, Err, IsOk, true, false, Bool, refl, sym, ap, ◌∙◌, subst}
use Rattle.std.specs.Bool.{⊤}
use Rattle.std.proofs.lemmas.Option.{same_Some}
use Rattle.serde_json.specs.Data.{Data}
use Rattle.druid_time.specs.Results.{◌>>=◌}
use Rattle.druid_time.specs.declared.granularity.Granularity.{Granularity}
use Rattle.druid_filter.specs.Filters.{Condition}
use Rattle.druid_query.specs.Query.{Dimension, Aggregator, result_names}
use Rattle.druid_base.specs.Distinct.{are_distinct}
use Rattle.druid_query.specs.Refusal.{Refusal, unknown_type, doubled_name, or_refuse, when, Reports, Checks, ReportsAfter, ChecksAfter}
use Rattle.druid_query.specs.Fields.{kind_at}
use Rattle.druid_query.specs.Read.{source_at, granularity_at, filter_field, dimensions_at, aggregations_at, no_more_at}
use Rattle.druid_query.specs.declared.fault.QueryFault.{QueryFault}
use Rattle.druid_query.specs.declared.fault.QueryFault.TheVariants as faults
use Rattle.druid_query.specs.declared.query_type.QueryType.{QueryType}
use Rattle.druid_query.proofs.StepLemmas.{stop, pass, last, bound}

-- what is read after the granularity, what is made of the parts, and the names in the result of that
pub record Reading (T S : Type 0) : Type 0 where
  pub timed : List ℕ → Data → Result T Refusal
  pub make : QueryType → List ℕ → Granularity → T → Option Condition → List Dimension → List Aggregator → S
  pub dimensions : S → List Dimension
  pub aggregations : S → List Aggregator

-- ---- what is read after each part

abbrev pub after_dimensions : {T S : Type 0} → Reading T S → Data → QueryType → List ℕ → Granularity → T → Option Condition → List Dimension → Result S Refusal
after_dimensions r d k s g t f ds = aggregations_at d >>= λ all. Ok (r.make k s g t f ds all)

abbrev pub after_filter : {T S : Type 0} → Reading T S → Data → QueryType → List ℕ → Granularity → T → Option Condition → Result S Refusal
after_filter r d k s g t f = dimensions_at k d >>= λ ds. after_dimensions r d k s g t f ds

abbrev pub after_timed : {T S : Type 0} → Reading T S → Data → QueryType → List ℕ → Granularity → T → Result S Refusal
after_timed r d k s g t = filter_field d >>= λ f. after_filter r d k s g t f

abbrev pub after_granularity : {T S : Type 0} → Reading T S → Data → QueryType → List ℕ → Granularity → Result S Refusal
after_granularity r d k s g = r.timed s d >>= λ t. after_timed r d k s g t

abbrev pub after_source : {T S : Type 0} → Reading T S → Data → QueryType → List ℕ → Result S Refusal
after_source r d k s = granularity_at d >>= λ g. after_granularity r d k s g

abbrev pub after_kind : {T S : Type 0} → Reading T S → Data → QueryType → Result S Refusal
after_kind r d k = source_at d >>= λ s. after_source r d k s

abbrev pub parts_by : {T S : Type 0} → Reading T S → Data → Result S Refusal
parts_by r d = or_refuse (kind_at d) unknown_type >>= λ k. after_kind r d k

of_kind : {T S : Type 0} (r : Reading T S) (d : Data) (k : QueryType) → Some k ≡ kind_at d → after_kind r d k ≡ parts_by r d
of_kind r d k h = ap (λ o. or_refuse o unknown_type >>= λ k'. after_kind r d k') h

pub no_kind : {T S : Type 0} (r : Reading T S) (d : Data) → None ≡ kind_at d → parts_by r d ≡ Err unknown_type
no_kind r d h = sym (ap (λ o. or_refuse o unknown_type >>= λ k'. after_kind r d k') h)

-- ---- one refusal after another

module _ {T S : Type 0} (r : Reading T S) (d : Data) (k : QueryType) (is : Some k ≡ kind_at d) (P : Result S Refusal → Type 0) where
  at_source : P (after_kind r d k) → P (parts_by r d)
  at_source h = subst P (of_kind r d k is) h

  at_granularity : IsOk (source_at d) → ((s : List ℕ) → source_at d ≡ Ok s → P (after_source r d k s)) → P (parts_by r d)
  at_granularity a more = at_source (pass (source_at d) (λ s. after_source r d k s) P a more)

  pub at_timed : IsOk (source_at d) → IsOk (granularity_at d) → ((s : List ℕ) (g : Granularity) → source_at d ≡ Ok s → P (after_granularity r d k s g)) → P (parts_by r d)
  at_timed a b more = at_granularity a (λ s e. pass (granularity_at d) (λ g. after_granularity r d k s g) P b (λ g _. more s g e))

-- each of these is read of the source
abbrev pub Timed : {T S : Type 0} → Reading T S → Data → Type 0
Timed r d = (s : List ℕ) → source_at d ≡ Ok s → IsOk (r.timed s d)

module _ {T S : Type 0} (r : Reading T S) (d : Data) (k : QueryType) (is : Some k ≡ kind_at d) (P : Result S Refusal → Type 0) where
  at_filter : IsOk (source_at d) → IsOk (granularity_at d) → Timed r d → ((s : List ℕ) (g : Granularity) (t : T) → P (after_timed r d k s g t)) → P (parts_by r d)
  at_filter a b c more = at_timed r d k is P a b (λ s g e. pass (r.timed s d) (λ t. after_timed r d k s g t) P (c s e) (λ t _. more s g t))

  at_dimensions : IsOk (source_at d) → IsOk (granularity_at d) → Timed r d → IsOk (filter_field d)
      → ((s : List ℕ) (g : Granularity) (t : T) (f : Option Condition) → P (after_filter r d k s g t f)) → P (parts_by r d)
  at_dimensions a b c h more = at_filter a b c (λ s g t. pass (filter_field d) (λ f. after_filter r d k s g t f) P h (λ f _. more s g t f))

  at_aggregations : IsOk (source_at d) → IsOk (granularity_at d) → Timed r d → IsOk (filter_field d) → IsOk (dimensions_at k d)
      → ((s : List ℕ) (g : Granularity) (t : T) (f : Option Condition) (ds : List Dimension) → P (after_dimensions r d k s g t f ds)) → P (parts_by r d)
  at_aggregations a b c h j more = at_dimensions a b c h (λ s g t f. pass (dimensions_at k d) (λ ds. after_dimensions r d k s g t f ds) P j (λ ds _. more s g t f ds))

module _ {T S : Type 0} (r : Reading T S) (d : Data) (k : QueryType) (is : Some k ≡ kind_at d) (e : QueryFault) (other : e ≡ faults.Memory → ⊥) where
  pub no_source : Reports e (source_at d) → Reports e (parts_by r d)
  no_source t = at_source r d k is (Reports e) (stop (source_at d) (λ s. after_source r d k s) e other t)

  pub no_granularity : IsOk (source_at d) → Reports e (granularity_at d) → Reports e (parts_by r d)
  no_granularity a t = at_granularity r d k is (Reports e) a (λ s _. stop (granularity_at d) (λ g. after_granularity r d k s g) e other t)

  pub no_times : IsOk (source_at d) → IsOk (granularity_at d) → ((s : List ℕ) → source_at d ≡ Ok s → Reports e (r.timed s d)) → Reports e (parts_by r d)
  no_times a b t = at_timed r d k is (Reports e) a b (λ s g is. stop (r.timed s d) (λ t. after_timed r d k s g t) e other (t s is))

  pub no_filter : IsOk (source_at d) → IsOk (granularity_at d) → Timed r d → Reports e (filter_field d) → Reports e (parts_by r d)
  no_filter a b c t = at_filter r d k is (Reports e) a b c (λ s g i. stop (filter_field d) (λ f. after_filter r d k s g i f) e other t)

  pub no_dimensions : IsOk (source_at d) → IsOk (granularity_at d) → Timed r d → IsOk (filter_field d) → Reports e (dimensions_at k d) → Reports e (parts_by r d)
  no_dimensions a b c h t = at_dimensions r d k is (Reports e) a b c h (λ s g i f. stop (dimensions_at k d) (λ ds. after_dimensions r d k s g i f ds) e other t)

pub aggregations_last : {T S : Type 0} (r : Reading T S) (d : Data) (k : QueryType) (answer : Result ⊤ QueryFault) → Some k ≡ kind_at d → (answer ≡ Err faults.Memory → ⊥)
    → IsOk (source_at d) → IsOk (granularity_at d) → Timed r d → IsOk (filter_field d) → IsOk (dimensions_at k d) → Checks answer (aggregations_at d) → Checks answer (parts_by r d)
aggregations_last r d k answer is other a b c h j t =
    at_aggregations r d k is (Checks answer) a b c h j (λ s g i f ds. last answer (aggregations_at d) (λ all. r.make k s g i f ds all) other t)

-- ---- the parts of what reads

pub record Steps {T S : Type 0} (r : Reading T S) (d : Data) (x : S) : Type 0 where
  pub kind : QueryType
  pub source : List ℕ
  pub granularity : Granularity
  pub times : T
  pub filter : Option Condition
  pub dimensions : List Dimension
  pub aggregations : List Aggregator
  pub kind_is : Some kind ≡ kind_at d
  pub source_is : source_at d ≡ Ok source
  pub granularity_is : granularity_at d ≡ Ok granularity
  pub times_is : r.timed source d ≡ Ok times
  pub filter_is : filter_field d ≡ Ok filter
  pub dimensions_is : dimensions_at kind d ≡ Ok dimensions
  pub aggregations_is : aggregations_at d ≡ Ok aggregations
  pub made : r.make kind source granularity times filter dimensions aggregations ≡ x

pub same_ok : {A : Type 0} (p q : A) → ◌≡◌ {A = Result A Refusal} (Ok p) (Ok q) → p ≡ q
same_ok p q h = cc

kind_bound : {A : Type 0} (d : Data) (f : QueryType → Result A Refusal) (x : A) → (or_refuse (kind_at d) unknown_type >>= f) ≡ Ok x → (k : QueryType) × (Some k ≡ kind_at d) × (f k ≡ Ok x)
kind_bound {A} d f x h = through (kind_at d) h
  where
    through : (o : Option QueryType) → (or_refuse o unknown_type >>= f) ≡ Ok x → (k : QueryType) × (Some k ≡ o) × (f k ≡ Ok x)
    through None h = absurd (cc)
    through (Some k) h = (k, refl, h)

pub steps_of : {T S : Type 0} (r : Reading T S) (d : Data) (x : S) → parts_by r d ≡ Ok x → Steps r d x
steps_of r d x read =
    let k = kind_bound d (λ k. after_kind r d k) x read in
    let s = bound (source_at d) (λ s. after_source r d k.0 s) x k.2 in
    let g = bound (granularity_at d) (λ g. after_granularity r d k.0 s.0 g) x s.2 in
    let t = bound (r.timed s.0 d) (λ t. after_timed r d k.0 s.0 g.0 t) x g.2 in
    let f = bound (filter_field d) (λ f. after_filter r d k.0 s.0 g.0 t.0 f) x t.2 in
    let ds = bound (dimensions_at k.0 d) (λ ds. after_dimensions r d k.0 s.0 g.0 t.0 f.0 ds) x f.2 in
    let all = bound (aggregations_at d) (λ all. Ok (r.make k.0 s.0 g.0 t.0 f.0 ds.0 all)) x ds.2 in
    record {
      kind = k.0;
      source = s.0;
      granularity = g.0;
      times = t.0;
      filter = f.0;
      dimensions = ds.0;
      aggregations = all.0;
      kind_is = k.1;
      source_is = s.1;
      granularity_is = g.1;
      times_is = t.1;
      filter_is = f.1;
      dimensions_is = ds.1;
      aggregations_is = all.1;
      made = same_ok (r.make k.0 s.0 g.0 t.0 f.0 ds.0 all.0) x all.2;
    }

pub parts_made : {T S : Type 0} (r : Reading T S) (d : Data) (k : QueryType) (s : List ℕ) (g : Granularity) (t : T) (f : Option Condition) (ds : List Dimension) (all : List Aggregator)
    → Some k ≡ kind_at d → source_at d ≡ Ok s → granularity_at d ≡ Ok g → r.timed s d ≡ Ok t → filter_field d ≡ Ok f → dimensions_at k d ≡ Ok ds → aggregations_at d ≡ Ok all
    → parts_by r d ≡ Ok (r.make k s g t f ds all)
parts_made r d k s g t f ds all is a b c h j l =
    sym (of_kind r d k is)
    ∙ ap (λ x. x >>= λ s'. after_source r d k s') a
    ∙ ap (λ x. x >>= λ g'. after_granularity r d k s g') b
    ∙ ap (λ x. x >>= λ t'. after_timed r d k s g t') c
    ∙ ap (λ x. x >>= λ f'. after_filter r d k s g t f') h
    ∙ ap (λ x. x >>= λ ds'. after_dimensions r d k s g t f ds') j
    ∙ ap (λ x. x >>= λ all'. Ok (r.make k s g t f ds all')) l

-- ---- the whole

abbrev pub distinct_in : {T S : Type 0} → Reading T S → S → Bool
distinct_in r x = are_distinct (result_names (r.dimensions x) (r.aggregations x))

abbrev after_more : {T S : Type 0} → Reading T S → S → Result S Refusal
after_more r x = when (distinct_in r x) x doubled_name

abbrev after_parts : {T S : Type 0} → Reading T S → Data → S → Result S Refusal
after_parts r d x = no_more_at d >>= λ _. after_more r x

abbrev pub whole_by : {T S : Type 0} → Reading T S → Data → Result S Refusal
whole_by r d = parts_by r d >>= λ x. after_parts r d x

pub no_parts : {T S : Type 0} (r : Reading T S) (d : Data) (e : QueryFault) → (e ≡ faults.Memory → ⊥) → Reports e (parts_by r d) → Reports e (whole_by r d)
no_parts r d e other t = stop (parts_by r d) (λ x. after_parts r d x) e other t

pub some_more : {T S : Type 0} (r : Reading T S) (d : Data) (e : QueryFault) → (e ≡ faults.Memory → ⊥) → IsOk (parts_by r d) → Reports e (no_more_at d) → Reports e (whole_by r d)
some_more r d e other a t =
    pass (parts_by r d) (λ x. after_parts r d x) (Reports e) a (λ x _. stop (no_more_at d) (λ _. after_more r x) e other t)

pub not_distinct : {T S : Type 0} (r : Reading T S) (d : Data) → IsOk (parts_by r d) → IsOk (no_more_at d) → ((x : S) → parts_by r d ≡ Ok x → false ≡ distinct_in r x) → whole_by r d ≡ Err doubled_name
not_distinct r d a b twice =
    pass (parts_by r d) (λ x. after_parts r d x) (λ w. w ≡ Err doubled_name) a
    (λ x e. pass (no_more_at d) (λ _. after_more r x) (λ w. w ≡ Err doubled_name) b (λ _ _. ap (λ (t : Bool). when t x doubled_name) (sym (twice x e))))

pub is_whole : {T S : Type 0} (r : Reading T S) (d : Data) → IsOk (parts_by r d) → IsOk (no_more_at d) → ((x : S) → parts_by r d ≡ Ok x → true ≡ distinct_in r x) → IsOk (whole_by r d)
is_whole r d a b once =
    pass (parts_by r d) (λ x. after_parts r d x) (λ w. IsOk w) a
    (λ x e. pass (no_more_at d) (λ _. after_more r x) (λ w. IsOk w) b (λ _ _. subst (λ (t : Bool). IsOk (when t x doubled_name)) (once x e) refl))

distinct_ok : {A : Type 0} (b : Bool) (x y : A) → when b x doubled_name ≡ Ok y → (b ≡ true) × (x ≡ y)
distinct_ok true x y h = (refl, same_ok x y h)
distinct_ok false x y h = absurd (cc)

-- what reads is what its parts make, and its names are distinct
pub whole_bound : {T S : Type 0} (r : Reading T S) (d : Data) (x : S) → whole_by r d ≡ Ok x → (parts_by r d ≡ Ok x) × (distinct_in r x ≡ true)
whole_bound r d x read =
    let p = bound (parts_by r d) (λ p. after_parts r d p) x read in
    let more = bound (no_more_at d) (λ _. after_more r p.0) x p.2 in
    let last = distinct_ok (distinct_in r p.0) p.0 x more.2 in
    (p.1 ∙ ap Ok last.1, ap (distinct_in r) (sym last.1) ∙ last.0)

pub whole_made : {T S : Type 0} (r : Reading T S) (d : Data) (x : S) → IsOk (whole_by r d) → parts_by r d ≡ Ok x → whole_by r d ≡ Ok x
whole_made {T} {S} r d x ok read = through (whole_by r d) refl ok
  where
    through : (w : Result S Refusal) → whole_by r d ≡ w → IsOk w → whole_by r d ≡ Ok x
    through (Err e) is ok = absurd (cc)
    through (Ok y) is ok = let w = whole_bound r d y is in is ∙ ap Ok (same_ok y x (sym w.0 ∙ read))

pub whole_read : {T S : Type 0} (r : Reading T S) (d : Data) (x : S) → parts_by r d ≡ Ok x → no_more_at d ≡ Ok tt → distinct_in r x ≡ true → whole_by r d ≡ Ok x
whole_read r d x parts more distinct =
    ap (λ w. w >>= λ p. after_parts r d p) parts ∙ ap (λ w. w >>= λ _. after_more r x) more ∙ ap (λ (b : Bool). when b x doubled_name) distinct

-- ---- where the whole reads, each part does

-- each step of the reading, of some value
abbrev pub Reads : {T S : Type 0} → Reading T S → Data → Type 0
Reads {T} {S} r d = (x : S) × Steps r d x

some_ok : {A : Type 0} (w : Result A Refusal) → IsOk w → (x : A) × (w ≡ Ok x)
some_ok (Ok x) ok = (x, refl)
some_ok (Err e) ok = absurd (cc)

pub reads : {T S : Type 0} (r : Reading T S) (d : Data) → IsOk (whole_by r d) → Reads r d
reads r d ok =
    let w = some_ok (whole_by r d) ok in
    (w.0, steps_of r d w.0 (whole_bound r d w.0 w.1).0)

is_ok : {A : Type 0} (w : Result A Refusal) (x : A) → w ≡ Ok x → IsOk w
is_ok w x h = subst (λ r. IsOk r) (sym h) refl

module _ {T S : Type 0} (r : Reading T S) (d : Data) (read : Reads r d) where
  pub kind_reads : None ≡ kind_at d → ⊥
  kind_reads none = let no = none ∙ sym read.1.kind_is in absurd (cc)

  pub source_reads : IsOk (source_at d)
  source_reads = is_ok (source_at d) read.1.source read.1.source_is

  pub granularity_reads : IsOk (granularity_at d)
  granularity_reads = is_ok (granularity_at d) read.1.granularity read.1.granularity_is

  pub times_read : (s : List ℕ) → source_at d ≡ Ok s → IsOk (r.timed s d)
  times_read s is = subst (λ t. IsOk (r.timed t d)) (same_ok read.1.source s (sym read.1.source_is ∙ is)) (is_ok (r.timed read.1.source d) read.1.times read.1.times_is)

  pub filter_reads : IsOk (filter_field d)
  filter_reads = is_ok (filter_field d) read.1.filter read.1.filter_is

  pub dimensions_read : (k : QueryType) → Some k ≡ kind_at d → IsOk (dimensions_at k d)
  dimensions_read k is = subst (λ t. IsOk (dimensions_at t d)) (same_Some read.1.kind k (read.1.kind_is ∙ sym is)) (is_ok (dimensions_at read.1.kind d) read.1.dimensions read.1.dimensions_is)

  pub aggregations_read : IsOk (aggregations_at d)
  aggregations_read = is_ok (aggregations_at d) read.1.aggregations read.1.aggregations_is

-- ---- out of memory

-- another fault says the same
pub to_after : {A B : Type 0} (before : Result B Refusal) (e : QueryFault) (read : Result A Refusal) → (e ≡ faults.Memory → ⊥) → Reports e read → ReportsAfter before e read
to_after before faults.NotJson read other t = t
to_after before faults.UnknownType read other t = t
to_after before (faults.Field key) read other t = t
to_after before faults.BadInterval read other t = t
to_after before faults.LimitPassed read other t = t
to_after before faults.DoubledName read other t = t
to_after before faults.Memory read other t = absurd (other refl)

-- one fault is carried on, and so is out of memory
pub carried : {A B C D : Type 0} (old : Result B Refusal) (read : Result A Refusal) (new : Result D Refusal) (whole : Result C Refusal) (e : QueryFault)
    → (IsOk old → IsOk new) → ((e ≡ faults.Memory → ⊥) → Reports e read → Reports e whole) → ReportsAfter old e read → ReportsAfter new e whole
carried old read new whole faults.NotJson memory other t = other (λ h. cc) t
carried old read new whole faults.UnknownType memory other t = other (λ h. cc) t
carried old read new whole (faults.Field key) memory other t = other (λ h. cc) t
carried old read new whole faults.BadInterval memory other t = other (λ h. cc) t
carried old read new whole faults.LimitPassed memory other t = other (λ h. cc) t
carried old read new whole faults.DoubledName memory other t = other (λ h. cc) t
carried old read new whole faults.Memory memory other t = memory t

-- an answer without out of memory
pub checks_after : {A B : Type 0} (before : Result B Refusal) (answer : Result ⊤ QueryFault) (read : Result A Refusal) → (answer ≡ Err faults.Memory → ⊥) → Checks answer read → ChecksAfter before answer read
checks_after before (Ok t) read other h = h
checks_after before (Err e) read other h = to_after before e read (λ same. other (ap Err same)) h
