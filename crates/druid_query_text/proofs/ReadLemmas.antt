-- A query, read before its intervals, at them and after them.
use Rattle.std.proofs.Common.{◌≡◌, ℕ, List, Option, Some, None, Result, Ok, Err, true, false, Bool, refl, sym, ap, ◌∙◌, subst}
use Rattle.std.specs.Bool.{⊤}
use Rattle.std.specs.Result.{IsErrAnd}
use Rattle.serde_json.specs.Data.{Data}
use Rattle.druid_time.specs.Extent.{Extent}
use Rattle.druid_time.specs.Results.{◌>>=◌}
use Rattle.druid_time.specs.declared.granularity.Granularity.{Granularity}
use Rattle.druid_filter.specs.Filters.{Condition}
use Rattle.druid_query.specs.Query.{Dimension, Aggregator, result_names}
use Rattle.druid_base.specs.Distinct.{are_distinct}
use Rattle.druid_query.specs.Refusal.{Refusal, unknown_type, doubled_name, or_refuse, when, Reports, ReportsAfter}
use Rattle.druid_query.specs.Fields.{kind_at}
use Rattle.druid_query.specs.Read.{source_at, granularity_at, filter_field, dimensions_at, aggregations_at, no_more_at, intervals_at, query_at}
use Rattle.druid_query.specs.declared.fault.QueryFault.{QueryFault}
use Rattle.druid_query.specs.declared.fault.QueryFault.TheVariants as faults
use Rattle.druid_query.specs.declared.query_type.QueryType.{QueryType}
use Rattle.druid_query.proofs.ChainLemmas.{Reading, whole_by, distinct_in, to_after}
use Rattle.druid_query.proofs.PartLemmas.{queries, of_query}
use Rattle.druid_query.proofs.StepLemmas as steps
use Rattle.druid_query_text.specs.Found.{Refuses}
use Rattle.druid_query_text.specs.Parts.{Head, Tail, head_by, tail_by, head_at, tail_at, query_by}

-- ---- one refusal after another

pub reports : {A : Type 0} (e : QueryFault) (r : Result A Refusal) → Refuses e r → Reports e r
reports faults.NotJson r h = h
reports faults.UnknownType r h = h
reports (faults.Field key) r h = h
reports faults.BadInterval r h = h
reports faults.LimitPassed r h = h
reports faults.DoubledName r h = h
reports faults.Memory r h = absurd h

pub refuses : {A : Type 0} (e : QueryFault) (r : Result A Refusal) → (e ≡ faults.Memory → ⊥) → Reports e r → Refuses e r
refuses faults.NotJson r other h = h
refuses faults.UnknownType r other h = h
refuses (faults.Field key) r other h = h
refuses faults.BadInterval r other h = h
refuses faults.LimitPassed r other h = h
refuses faults.DoubledName r other h = h
refuses faults.Memory r other h = other refl

other_than : {A : Type 0} (e : QueryFault) (r : Result A Refusal) → Refuses e r → e ≡ faults.Memory → ⊥
other_than faults.NotJson r h = absurd h
other_than faults.UnknownType r h = λ same. cc
other_than (faults.Field key) r h = λ same. cc
other_than faults.BadInterval r h = λ same. cc
other_than faults.LimitPassed r h = λ same. cc
other_than faults.DoubledName r h = λ same. cc
other_than faults.Memory r h = absurd h

-- a step is refused
pub stop : {A B : Type 0} (r : Result A Refusal) (f : A → Result B Refusal) (e : QueryFault) → Refuses e r → Refuses e (r >>= f)
stop r f e h = refuses e (r >>= f) (other_than e r h) (steps.stop r f e (other_than e r h) (reports e r h))

-- a step goes on
pub go : {A B : Type 0} (r : Result A Refusal) (f : A → Result B Refusal) (P : Result B Refusal → Type 0) (x : A) → r ≡ Ok x → P (f x) → P (r >>= f)
go r f P x is h = subst (λ w. P (w >>= f)) (sym is) h

pub after : {A B : Type 0} (before : Result B Refusal) (e : QueryFault) (r : Result A Refusal) → Refuses e r → ReportsAfter before e r
after before e r h = to_after before e r (other_than e r h) (reports e r h)

-- what holds of an error holds of what `?` makes of it
pub error_holds : {A : Type 0} (P : Result A QueryFault → Type 0) (r : Result A QueryFault) (e : QueryFault) → IsErrAnd r (λ f. f ≡ e) → P (Err e) → P r
error_holds P (Ok x) e h t = absurd h
error_holds P (Err f) e h t = subst (λ f'. P (Err f')) (sym h) t

-- ---- before the intervals

pub head_kind : (d : Data) → None ≡ kind_at d → head_at d ≡ Err unknown_type
unfolding head_at
head_kind d none = ap (λ o. or_refuse o unknown_type >>= λ k. source_at d >>= λ s. granularity_at d >>= λ g. Ok (head_by k s g)) (sym none)

after_kind : (d : Data) (k : QueryType) → Some k ≡ kind_at d → (source_at d >>= λ s. granularity_at d >>= λ g. Ok (head_by k s g)) ≡ head_at d
unfolding head_at
after_kind d k is = ap (λ o. or_refuse o unknown_type >>= λ k'. source_at d >>= λ s. granularity_at d >>= λ g. Ok (head_by k' s g)) is

pub head_source : (d : Data) (k : QueryType) (e : QueryFault) → Some k ≡ kind_at d → Refuses e (source_at d) → Refuses e (head_at d)
head_source d k e is t = subst (Refuses e) (after_kind d k is) (stop (source_at d) (λ s. granularity_at d >>= λ g. Ok (head_by k s g)) e t)

pub head_granularity : (d : Data) (k : QueryType) (s : List ℕ) (e : QueryFault) → Some k ≡ kind_at d → source_at d ≡ Ok s → Refuses e (granularity_at d) → Refuses e (head_at d)
head_granularity d k s e is named t =
    subst (Refuses e) (after_kind d k is)
    (go (source_at d) (λ s'. granularity_at d >>= λ g. Ok (head_by k s' g)) (Refuses e) s named (stop (granularity_at d) (λ g. Ok (head_by k s g)) e t))

pub head_is : (d : Data) (k : QueryType) (s : List ℕ) (g : Granularity) → Some k ≡ kind_at d → source_at d ≡ Ok s → granularity_at d ≡ Ok g → head_at d ≡ Ok (head_by k s g)
head_is d k s g is named read =
    sym (after_kind d k is) ∙ ap (λ r. r >>= λ s'. granularity_at d >>= λ g'. Ok (head_by k s' g')) named ∙ ap (λ r. r >>= λ g'. Ok (head_by k s g')) read

-- ---- after the intervals

module _ (d : Data) (k : QueryType) where
  abbrev more : Option Condition → List Dimension → List Aggregator → Result Tail Refusal
  more f ds all = no_more_at d >>= λ _. when (are_distinct (result_names ds all)) (tail_by f ds all) doubled_name

  abbrev columns : Option Condition → List Dimension → Result Tail Refusal
  columns f ds = aggregations_at d >>= λ all. more f ds all

  abbrev rest : Option Condition → Result Tail Refusal
  rest f = dimensions_at k d >>= λ ds. columns f ds

  pub tail_filter : (e : QueryFault) → Refuses e (filter_field d) → Refuses e (tail_at k d)
  unfolding tail_at
  tail_filter e t = stop (filter_field d) (λ f. rest f) e t

  after_filter : (f : Option Condition) → filter_field d ≡ Ok f → rest f ≡ tail_at k d
  unfolding tail_at
  after_filter f is = sym (ap (λ r. r >>= λ f'. rest f') is)

  pub tail_dimensions : (f : Option Condition) (e : QueryFault) → filter_field d ≡ Ok f → Refuses e (dimensions_at k d) → Refuses e (tail_at k d)
  tail_dimensions f e is t = subst (Refuses e) (after_filter f is) (stop (dimensions_at k d) (λ ds. columns f ds) e t)

  after_dimensions : (f : Option Condition) (ds : List Dimension) → filter_field d ≡ Ok f → dimensions_at k d ≡ Ok ds → columns f ds ≡ tail_at k d
  after_dimensions f ds is read = sym (ap (λ r. r >>= λ ds'. columns f ds') read) ∙ after_filter f is

  pub tail_aggregations : (f : Option Condition) (ds : List Dimension) (e : QueryFault) → filter_field d ≡ Ok f → dimensions_at k d ≡ Ok ds → Refuses e (aggregations_at d) → Refuses e (tail_at k d)
  tail_aggregations f ds e is read t = subst (Refuses e) (after_dimensions f ds is read) (stop (aggregations_at d) (λ all. more f ds all) e t)

  after_aggregations : (f : Option Condition) (ds : List Dimension) (all : List Aggregator) → filter_field d ≡ Ok f → dimensions_at k d ≡ Ok ds → aggregations_at d ≡ Ok all → more f ds all ≡ tail_at k d
  after_aggregations f ds all is read counted = sym (ap (λ r. r >>= λ all'. more f ds all') counted) ∙ after_dimensions f ds is read

  pub tail_more : (f : Option Condition) (ds : List Dimension) (all : List Aggregator) (e : QueryFault) → filter_field d ≡ Ok f → dimensions_at k d ≡ Ok ds → aggregations_at d ≡ Ok all
      → Refuses e (no_more_at d) → Refuses e (tail_at k d)
  tail_more f ds all e is read counted t =
      subst (Refuses e) (after_aggregations f ds all is read counted) (stop (no_more_at d) (λ _. when (are_distinct (result_names ds all)) (tail_by f ds all) doubled_name) e t)

  pub tail_judged : (f : Option Condition) (ds : List Dimension) (all : List Aggregator) (b : Bool) → filter_field d ≡ Ok f → dimensions_at k d ≡ Ok ds → aggregations_at d ≡ Ok all
      → no_more_at d ≡ Ok tt → b ≡ are_distinct (result_names ds all) → tail_at k d ≡ when b (tail_by f ds all) doubled_name
  tail_judged f ds all b is read counted none same =
      sym (after_aggregations f ds all is read counted) ∙ ap (λ r. r >>= λ _. when (are_distinct (result_names ds all)) (tail_by f ds all) doubled_name) none
      ∙ ap (λ (c : Bool). when c (tail_by f ds all) doubled_name) (sym same)

-- ---- before the intervals, at them and after them

abbrev pub whole_of : {T S : Type 0} → Reading T S → Head → T → Tail → S
whole_of r h t l = r.make h.kind h.source h.granularity t l.filter l.dimensions l.aggregations

abbrev pub after_times : {T S : Type 0} → Reading T S → Data → Head → T → Result S Refusal
after_times r d h t = tail_at h.kind d >>= λ l. Ok (whole_of r h t l)

abbrev pub after_head : {T S : Type 0} → Reading T S → Data → Head → Result S Refusal
after_head r d h = r.timed h.source d >>= λ t. after_times r d h t

abbrev pub by_parts : {T S : Type 0} → Reading T S → Data → Result S Refusal
by_parts r d = head_at d >>= λ h. after_head r d h

-- the names of the whole are those of its parts
abbrev pub IsNamed : {T S : Type 0} → Reading T S → Type 0
IsNamed {T} r = (k : QueryType) (s : List ℕ) (g : Granularity) (t : T) (f : Option Condition) (ds : List Dimension) (all : List Aggregator) → distinct_in r (r.make k s g t f ds all) ≡ are_distinct (result_names ds all)

module _ {T S : Type 0} (r : Reading T S) (named : IsNamed r) where
  last : (x : S) (l : Tail) (f : Tail → S) (a b : Bool) → a ≡ b → f l ≡ x → when a x doubled_name ≡ (when b l doubled_name >>= λ l'. Ok (f l'))
  last x l f a true same is = ap (λ (c : Bool). when c x doubled_name) same ∙ ap Ok (sym is)
  last x l f a false same is = ap (λ (c : Bool). when c x doubled_name) same

  tails : (d : Data) (k : QueryType) (s : List ℕ) (g : Granularity) (t : T) (f : Result (Option Condition) Refusal) (ds : Result (List Dimension) Refusal) (all : Result (List Aggregator) Refusal) (more : Result ⊤ Refusal)
      → ((f >>= λ f'. ds >>= λ ds'. all >>= λ all'. Ok (r.make k s g t f' ds' all')) >>= λ x. more >>= λ _. when (distinct_in r x) x doubled_name)
      ≡ ((f >>= λ f'. ds >>= λ ds'. all >>= λ all'. more >>= λ _. when (are_distinct (result_names ds' all')) (tail_by f' ds' all') doubled_name)
      >>= λ l. Ok (r.make k s g t l.filter l.dimensions l.aggregations))
  tails d k s g t (Err e) ds all more = refl
  tails d k s g t (Ok f) (Err e) all more = refl
  tails d k s g t (Ok f) (Ok ds) (Err e) more = refl
  tails d k s g t (Ok f) (Ok ds) (Ok all) (Err e) = refl
  tails d k s g t (Ok f) (Ok ds) (Ok all) (Ok u) =
      last (r.make k s g t f ds all) (tail_by f ds all) (λ l. r.make k s g t l.filter l.dimensions l.aggregations)
      (distinct_in r (r.make k s g t f ds all)) (are_distinct (result_names ds all)) (named k s g t f ds all) refl

  times : (d : Data) (k : QueryType) (s : List ℕ) (g : Granularity) (t : Result T Refusal)
      → ((t >>= λ t'. filter_field d >>= λ f. dimensions_at k d >>= λ ds. aggregations_at d >>= λ all. Ok (r.make k s g t' f ds all)) >>= λ x. no_more_at d >>= λ _. when (distinct_in r x) x doubled_name)
      ≡ (t >>= λ t'. after_times r d (head_by k s g) t')
  unfolding tail_at
  times d k s g (Err e) = refl
  times d k s g (Ok t) = tails d k s g t (filter_field d) (dimensions_at k d) (aggregations_at d) (no_more_at d)

  heads : (d : Data) (k : Result QueryType Refusal) (s : Result (List ℕ) Refusal) (g : Result Granularity Refusal)
      → ((k >>= λ k'. s >>= λ s'. g >>= λ g'. r.timed s' d >>= λ t. filter_field d >>= λ f. dimensions_at k' d >>= λ ds. aggregations_at d >>= λ all. Ok (r.make k' s' g' t f ds all))
      >>= λ x. no_more_at d >>= λ _. when (distinct_in r x) x doubled_name)
      ≡ ((k >>= λ k'. s >>= λ s'. g >>= λ g'. Ok (head_by k' s' g')) >>= λ h. after_head r d h)
  heads d (Err e) s g = refl
  heads d (Ok k) (Err e) g = refl
  heads d (Ok k) (Ok s) (Err e) = refl
  heads d (Ok k) (Ok s) (Ok g) = times d k s g (r.timed s d)

  pub whole_parts : (d : Data) → whole_by r d ≡ by_parts r d
  unfolding head_at
  whole_parts d = heads d (or_refuse (kind_at d) unknown_type) (source_at d) (granularity_at d)

-- ---- the answer to each part

module _ {T S : Type 0} (r : Reading T S) (d : Data) (P : Result S Refusal → Type 0) where
  pub at_times : (h : Head) → head_at d ≡ Ok h → P (after_head r d h) → P (by_parts r d)
  at_times h is more = go (head_at d) (λ h'. after_head r d h') P h is more

  pub at_tail : (h : Head) (t : T) → head_at d ≡ Ok h → r.timed h.source d ≡ Ok t → P (after_times r d h t) → P (by_parts r d)
  at_tail h t is read more = at_times h is (go (r.timed h.source d) (λ t'. after_times r d h t') P t read more)

pub all_parts : {T S : Type 0} (r : Reading T S) (d : Data) (h : Head) (t : T) (l : Tail) → head_at d ≡ Ok h → r.timed h.source d ≡ Ok t → tail_at h.kind d ≡ Ok l → by_parts r d ≡ Ok (whole_of r h t l)
all_parts r d h t l is read more =
    at_tail r d (λ w. w ≡ Ok (whole_of r h t l)) h t is read (go (tail_at h.kind d) (λ l'. Ok (whole_of r h t l')) (λ w. w ≡ Ok (whole_of r h t l)) l more refl)

-- ---- a query

pub of_query_parts : (d : Data) → by_parts queries d ≡ query_at d
of_query_parts d = sym (whole_parts queries (λ k s g t f ds all. refl) d) ∙ of_query d

pub query_head : (d : Data) (e : QueryFault) → Refuses e (head_at d) → Refuses e (query_at d)
query_head d e h = subst (Refuses e) (of_query_parts d) (stop (head_at d) (λ h'. after_head queries d h') e h)

pub query_times : (d : Data) (h : Head) (e : QueryFault) → head_at d ≡ Ok h → Refuses e (intervals_at d) → Refuses e (query_at d)
query_times d h e is t = subst (Refuses e) (of_query_parts d) (at_times queries d (Refuses e) h is (stop (intervals_at d) (λ i. after_times queries d h i) e t))

pub query_tail : (d : Data) (h : Head) (i : List Extent) (e : QueryFault) → head_at d ≡ Ok h → intervals_at d ≡ Ok i → Refuses e (tail_at h.kind d) → Refuses e (query_at d)
query_tail d h i e is read t =
    subst (Refuses e) (of_query_parts d) (at_tail queries d (Refuses e) h i is read (stop (tail_at h.kind d) (λ l. Ok (query_by h i l)) e t))

pub query_is : (d : Data) (h : Head) (i : List Extent) (l : Tail) → head_at d ≡ Ok h → intervals_at d ≡ Ok i → tail_at h.kind d ≡ Ok l → query_at d ≡ Ok (query_by h i l)
query_is d h i l is read more = sym (of_query_parts d) ∙ all_parts queries d h i l is read more
