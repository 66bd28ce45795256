-- Lists and filters list_answer without being built.
use Rattle.std.proofs.Common.{◌≡◌, ℕ, nat_le, List, [], ◌∷◌, length, Option, Some, None, Result, Ok, Err, IsSome, option_map, is_some, true, false, Bool, ◌&&◌, refl, sym, ap, ◌∙◌}
use Rattle.std.specs.List.{list_all, cons_option}
use Rattle.std.proofs.lemmas.Option.{same_Some}
use Rattle.serde_json.specs.Data.{Data, Items}
use Rattle.serde_json.specs.View.{view, items_view}
use Rattle.serde_json.specs.declared.value.Value.{Value}
use Rattle.druid_time.specs.Extent.{Extent}
use Rattle.druid_base.specs.Options as options
use Rattle.druid_time.specs.Results.{◌>>=◌}
use Rattle.druid_filter.specs.Filters.{Condition}
use Rattle.druid_query.specs.Query.{fits_filter, fits_dimension, fit_dimensions, fits_aggregator, fit_aggregators}
use Rattle.druid_query.specs.Refusal.{Refusal, bad_interval, limit_passed, or_refuse, when}
use Rattle.druid_base.specs.Each.{each_of}
use Rattle.druid_query_text.specs.Found.{EachReads, holds_in, readings}
use Rattle.druid_query.specs.Read.{list_of, fit_intervals}
use Rattle.druid_query.specs.Fields.{interval_of, dimension_at, aggregator_at}
use Rattle.druid_query.specs.Limits.{max_intervals, max_dimensions, max_aggregators}
use Rattle.druid_base.proofs.EachLemmas.{all_reads, each_of_length}

-- ---- what reads

pub all_read : {A : Type 0} (f : Data → Option A) (vs : List Value) → true ≡ list_all (λ v. is_some (f (view v))) vs → EachReads f vs
all_read f vs h = sym (all_reads f vs) ∙ sym h

next_reading : {A : Type 0} (o : Option A) (rest : Option (List A)) (xs : List A) → IsSome (options.◌>>=◌ o (λ y. options.◌>>=◌ rest (λ ys. Some (y ∷ ys)))) → (IsSome rest → rest ≡ Some xs)
    → options.◌>>=◌ o (λ y. options.◌>>=◌ rest (λ ys. Some (y ∷ ys))) ≡ Some (cons_option o xs)
next_reading None rest xs h more = absurd (cc)
next_reading (Some y) None xs h more = absurd (cc)
next_reading (Some y) (Some ys) xs h more = ap (λ r. options.◌>>=◌ r (λ zs. Some (y ∷ zs))) (more refl)

-- where each reads, the readings are all
pub each_reading : {A : Type 0} (f : Data → Option A) (vs : List Value) → EachReads f vs → each_of f (items_view vs) ≡ Some (readings f vs)
each_reading f [] h = refl
each_reading f (v ∷ vs) h = next_reading (f (view v)) (each_of f (items_view vs)) (readings f vs) h (each_reading f vs)

pub all_readings : {A : Type 0} (f : Data → Option A) (vs : List Value) (xs : List A) → EachReads f vs → each_of f (items_view vs) ≡ Some xs → xs ≡ readings f vs
all_readings f vs xs h read = same_Some xs (readings f vs) (sym read ∙ each_reading f vs h)

-- ---- the answer to a list

-- what was list_answer of the items, and whether they are as many as this test says
abbrev fit_answer : {A : Type 0} → Bool → (A → Bool) → Option (List A) → Option Bool
fit_answer few p read = option_map (λ xs. few && list_all p xs) read

some_answer : {A : Type 0} (few : Bool) (p : A → Bool) (read : Option (List A)) (b : Bool) → Some b ≡ fit_answer few p read → IsSome read
some_answer few p None b h = absurd (cc)
some_answer few p (Some xs) b h = refl

pub each_reads : {A : Type 0} (f : Data → Option A) (p : A → Bool) (most : ℕ) (vs : List Value) (b : Bool) → Some b ≡ option_map (λ xs. nat_le (length vs) most && list_all p xs) (each_of f (items_view vs)) → EachReads f vs
each_reads f p most vs b h = some_answer (nat_le (length vs) most) p (each_of f (items_view vs)) b h

pub no_list : {A : Type 0} (o : Option Items) (shape each : Refusal) (f : Data → Option A) (fits : List A → Bool) → None ≡ o → list_of o shape f each fits ≡ Err shape
no_list o shape each f fits h = ap (λ p. list_of p shape f each fits) (sym h)

none_answer : {A : Type 0} (few : Bool) (p : A → Bool) (read : Option (List A)) → None ≡ fit_answer few p read → read ≡ None
none_answer few p None h = refl
none_answer few p (Some xs) h = absurd (cc)

pub bad_item : {A : Type 0} (o : Option Items) (vs : List Value) (shape each : Refusal) (f : Data → Option A) (fits : List A → Bool) (p : A → Bool) (most : ℕ)
    → Some (items_view vs) ≡ o → None ≡ option_map (λ xs. nat_le (length vs) most && list_all p xs) (each_of f (items_view vs)) → list_of o shape f each fits ≡ Err each
bad_item o vs shape each f fits p most h bad =
    ap (λ p. list_of p shape f each fits) (sym h)
    ∙ ap (λ r. or_refuse r each >>= λ xs. when (fits xs) xs limit_passed) (none_answer (nat_le (length vs) most) p (each_of f (items_view vs)) bad)

-- each item reads, and it is as the limits say
list_answer : {A : Type 0} (o : Option Items) (vs : List Value) (shape each : Refusal) (f : Data → Option A) (p : A → Bool) (most : ℕ) (b : Bool)
    → Some (items_view vs) ≡ o → Some b ≡ option_map (λ xs. nat_le (length vs) most && list_all p xs) (each_of f (items_view vs))
    → list_of o shape f each (λ xs. nat_le (length xs) most && list_all p xs) ≡ when b (readings f vs) limit_passed
list_answer {A} o vs shape each f p most b h good =
    let all = readings f vs in
    let read : each_of f (items_view vs) ≡ Some all = each_reading f vs (each_reads f p most vs b good) in
    let few = ap (λ n. nat_le n most) (each_of_length f vs all read) in
    let fit : (nat_le (length vs) most && list_all p all) ≡ b = same_Some (nat_le (length vs) most && list_all p all) b (sym (good ∙ ap (λ r. fit_answer (nat_le (length vs) most) p r) read)) in
    ap (λ q. list_of q shape f each (λ xs. nat_le (length xs) most && list_all p xs)) (sym h)
    ∙ ap (λ r. or_refuse r each >>= λ xs. when (nat_le (length xs) most && list_all p xs) xs limit_passed) read
    ∙ ap (λ c. when (c && list_all p all) all limit_passed) few
    ∙ ap (λ c. when c all limit_passed) fit

pub dimensions_unfit : (o : Option Items) (vs : List Value) (shape each : Refusal) → Some (items_view vs) ≡ o → Some false ≡ option_map (λ xs. nat_le (length vs) max_dimensions && list_all fits_dimension xs) (each_of dimension_at (items_view vs))
    → list_of o shape dimension_at each fit_dimensions ≡ Err limit_passed
dimensions_unfit o vs shape each h bad = list_answer o vs shape each dimension_at fits_dimension max_dimensions false h bad

pub dimensions_fit : (o : Option Items) (vs : List Value) (shape each : Refusal) → Some (items_view vs) ≡ o → Some true ≡ option_map (λ xs. nat_le (length vs) max_dimensions && list_all fits_dimension xs) (each_of dimension_at (items_view vs))
    → list_of o shape dimension_at each fit_dimensions ≡ Ok (readings dimension_at vs)
dimensions_fit o vs shape each h good = list_answer o vs shape each dimension_at fits_dimension max_dimensions true h good

pub aggregators_unfit : (o : Option Items) (vs : List Value) (shape each : Refusal) → Some (items_view vs) ≡ o → Some false ≡ option_map (λ xs. nat_le (length vs) max_aggregators && list_all fits_aggregator xs) (each_of aggregator_at (items_view vs))
    → list_of o shape aggregator_at each fit_aggregators ≡ Err limit_passed
aggregators_unfit o vs shape each h bad = list_answer o vs shape each aggregator_at fits_aggregator max_aggregators false h bad

pub aggregators_fit : (o : Option Items) (vs : List Value) (shape each : Refusal) → Some (items_view vs) ≡ o → Some true ≡ option_map (λ xs. nat_le (length vs) max_aggregators && list_all fits_aggregator xs) (each_of aggregator_at (items_view vs))
    → list_of o shape aggregator_at each fit_aggregators ≡ Ok (readings aggregator_at vs)
aggregators_fit o vs shape each h good = list_answer o vs shape each aggregator_at fits_aggregator max_aggregators true h good

-- a list of intervals has no limit but their number
few_alone : {A : Type 0} (n : Bool) (xs : List A) → (n && list_all (λ _. true) xs) ≡ n
few_alone true [] = refl
few_alone false [] = refl
few_alone n (x ∷ xs) = few_alone n xs

limits_alone : (o : Option Items) (shape : Refusal) → list_of o shape interval_of bad_interval (λ xs. nat_le (length xs) max_intervals && list_all (λ _. true) xs) ≡ list_of o shape interval_of bad_interval fit_intervals
limits_alone None shape = refl
limits_alone (Some ds) shape = through (each_of interval_of ds)
  where
    through : (read : Option (List Extent)) → (or_refuse read bad_interval >>= λ xs. when (nat_le (length xs) max_intervals && list_all (λ _. true) xs) xs limit_passed) ≡ (or_refuse read bad_interval >>= λ xs. when (fit_intervals xs) xs limit_passed)
    through None = refl
    through (Some xs) = ap (λ (b : Bool). when b xs limit_passed) (few_alone (fit_intervals xs) xs)

pub intervals_unfit : (o : Option Items) (vs : List Value) (shape : Refusal) → Some (items_view vs) ≡ o → Some false ≡ option_map (λ xs. nat_le (length vs) max_intervals && list_all (λ _. true) xs) (each_of interval_of (items_view vs))
    → list_of o shape interval_of bad_interval fit_intervals ≡ Err limit_passed
intervals_unfit o vs shape h bad = sym (limits_alone o shape) ∙ list_answer o vs shape bad_interval interval_of (λ _. true) max_intervals false h bad

pub intervals_fit : (o : Option Items) (vs : List Value) (shape : Refusal) → Some (items_view vs) ≡ o → Some true ≡ option_map (λ xs. nat_le (length vs) max_intervals && list_all (λ _. true) xs) (each_of interval_of (items_view vs))
    → list_of o shape interval_of bad_interval fit_intervals ≡ Ok (readings interval_of vs)
intervals_fit o vs shape h good = sym (limits_alone o shape) ∙ list_answer o vs shape bad_interval interval_of (λ _. true) max_intervals true h good

-- ---- the answer to a filter

abbrev judged_filter : Option Condition → Refusal → Result (Option Condition) Refusal
judged_filter o e = or_refuse o e >>= λ c. when (fits_filter c) (Some c) limit_passed

pub no_filter : (o : Option Condition) (e : Refusal) → false ≡ is_some o → judged_filter o e ≡ Err e
no_filter None e h = refl
no_filter (Some c) e h = absurd (cc)

pub filter_passes : (o : Option Condition) (e : Refusal) → true ≡ is_some o → false ≡ holds_in fits_filter o → judged_filter o e ≡ Err limit_passed
filter_passes None e h bad = absurd (cc)
filter_passes (Some c) e h bad = rw (← bad) refl

pub filter_fits : (o : Option Condition) (e : Refusal) → true ≡ holds_in fits_filter o → judged_filter o e ≡ Ok o
filter_fits None e good = absurd (cc)
filter_fits (Some c) e good = rw (← good) refl
