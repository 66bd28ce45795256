-- The parts of a subquery.
use Rattle.std.proofs.Common.{◌≡◌, ℕ, List, Option, Some, None, Result, Ok, Err, IsOk, is_some, codes, true, false, Bool, refl, sym, ap, ◌∙◌, subst}
use Rattle.std.specs.List.{list_all}
use Rattle.serde_json.specs.Data.{Data, Items}
use Rattle.serde_json.specs.View.{view, items_view}
use Rattle.serde_json.specs.declared.value.Value.{Value}
use Rattle.druid_time.specs.Extent.{Extent}
use Rattle.druid_time.specs.Results.{◌>>=◌}
use Rattle.druid_time.specs.declared.granularity.Granularity.{Granularity}
use Rattle.druid_base.specs.Each.{each_of}
use Rattle.druid_base.proofs.EachLemmas.{not_all_read}
use Rattle.druid_query.specs.Query.{query_of}
use Rattle.druid_query.specs.Asked.{Asked, inside_at, stand_apart}
use Rattle.druid_query.specs.Refusal.{Refusal, bad_field, bad_interval, unknown_type, or_refuse, when, ReportsAfter}
use Rattle.druid_query.specs.Fields.{kind_at}
use Rattle.druid_query.specs.Read.{source_at, granularity_at}
use Rattle.druid_query.specs.SubQuery.{SubQuery, Span, pieces_at, apart_at, query_intervals_at, span_at, sub_parts_at, subquery_at, before_search}
use Rattle.druid_query.specs.declared.fault.QueryFault.{QueryFault}
use Rattle.druid_query.specs.declared.query_type.QueryType.{QueryType}
use Rattle.druid_query.proofs.ChainLemmas.{Reading, whole_by, same_ok, carried}
use Rattle.druid_query.proofs.StepLemmas.{bound}
use Rattle.druid_query_text.specs.Found.{Refuses, readings}
use Rattle.druid_query_text.specs.Parts.{Head, Tail, head_by, head_at, tail_at, query_by}
use Rattle.druid_query_text.proofs.ListLemmas.{all_read, each_reading}
use Rattle.druid_query_text.proofs.ReadLemmas.{reports, refuses, stop, go, after, after_head, after_times, by_parts, whole_parts, at_times, at_tail, all_parts}

abbrev pub subs : Reading Span SubQuery
subs = record {
  timed = span_at;
  make = λ k s g span f ds all. record { query = query_of k s g span.intervals f ds all; asked = span.asked };
  dimensions = λ x. x.query.dimensions;
  aggregations = λ x. x.query.aggregations;
}

pub of_sub : (d : Data) → whole_by subs d ≡ subquery_at d
unfolding subquery_at sub_parts_at
of_sub d = refl

-- ---- the pieces

abbrev listed : List ℕ → Option Items → Result (List Asked) Refusal
listed source o = or_refuse o (bad_field (codes "intervals")) >>= λ items. or_refuse (each_of (inside_at source) items) bad_interval

pub no_pieces : (source : List ℕ) (o : Option Items) → None ≡ o → (or_refuse o (bad_field (codes "intervals")) >>= λ items. or_refuse (each_of (inside_at source) items) bad_interval) ≡ Err (bad_field (codes "intervals"))
no_pieces source o h = sym (ap (listed source) h)

pub not_inside : (source : List ℕ) (o : Option Items) (vs : List Value) → Some (items_view vs) ≡ o → false ≡ list_all (λ v. is_some (inside_at source (view v))) vs
    → (or_refuse o (bad_field (codes "intervals")) >>= λ items. or_refuse (each_of (inside_at source) items) bad_interval) ≡ Err bad_interval
not_inside source o vs h bad = sym (ap (listed source) h) ∙ ap (λ all. or_refuse all bad_interval) (not_all_read (inside_at source) vs (sym bad))

pub inside : (source : List ℕ) (o : Option Items) (vs : List Value) → Some (items_view vs) ≡ o → true ≡ list_all (λ v. is_some (inside_at source (view v))) vs
    → (or_refuse o (bad_field (codes "intervals")) >>= λ items. or_refuse (each_of (inside_at source) items) bad_interval) ≡ Ok (readings (inside_at source) vs)
inside source o vs h good =
    sym (ap (listed source) h) ∙ ap (λ all. or_refuse all bad_interval) (each_reading (inside_at source) vs (all_read (inside_at source) vs good))

pub ok_some : {A : Type 0} (o : Option A) (e : Refusal) (x : A) → or_refuse o e ≡ Ok x → o ≡ Some x
ok_some None e x h = absurd (cc)
ok_some (Some y) e x h = ap Some (same_ok y x h)

-- ---- the pieces and the query's own intervals

abbrev after_apart : Data → List Asked → Result Span Refusal
after_apart d asked = query_intervals_at d >>= λ intervals. Ok (record { asked = asked; intervals = intervals })

abbrev apart_answer : List Asked → Result (List Asked) Refusal
apart_answer all = when (stand_apart all) all bad_interval

pub span_pieces : (s : List ℕ) (d : Data) (e : QueryFault) → Refuses e (pieces_at s d) → Refuses e (span_at s d)
unfolding span_at apart_at
span_pieces s d e t = stop (pieces_at s d >>= λ all. apart_answer all) (after_apart d) e (stop (pieces_at s d) (λ all. apart_answer all) e t)

apart_is : (s : List ℕ) (d : Data) (all : List Asked) (b : Bool) → pieces_at s d ≡ Ok all → b ≡ stand_apart all → apart_at s d ≡ when b all bad_interval
unfolding apart_at
apart_is s d all b read apart = ap (λ r. r >>= λ all'. apart_answer all') read ∙ ap (λ (c : Bool). when c all bad_interval) (sym apart)

pub span_overlaps : (s : List ℕ) (d : Data) (all : List Asked) → pieces_at s d ≡ Ok all → false ≡ stand_apart all → span_at s d ≡ Err bad_interval
unfolding span_at
span_overlaps s d all read overlap = ap (λ r. r >>= after_apart d) (apart_is s d all false read overlap)

pub span_intervals : (s : List ℕ) (d : Data) (all : List Asked) (e : QueryFault) → pieces_at s d ≡ Ok all → true ≡ stand_apart all → Refuses e (query_intervals_at d) → Refuses e (span_at s d)
unfolding span_at
span_intervals s d all e read apart t =
    go (apart_at s d) (after_apart d) (Refuses e) all (apart_is s d all true read apart) (stop (query_intervals_at d) (λ i. Ok (record { asked = all; intervals = i })) e t)

pub span_is : (s : List ℕ) (d : Data) (all : List Asked) (i : List Extent) → pieces_at s d ≡ Ok all → true ≡ stand_apart all → query_intervals_at d ≡ Ok i → span_at s d ≡ Ok (record { asked = all; intervals = i })
unfolding span_at
span_is s d all i read apart times =
    ap (λ r. r >>= after_apart d) (apart_is s d all true read apart) ∙ ap (λ r. r >>= λ i'. Ok (record { asked = all; intervals = i' })) times

-- ---- the whole

pub of_sub_parts : (d : Data) → by_parts subs d ≡ subquery_at d
of_sub_parts d = sym (whole_parts subs (λ k s g t f ds all. refl) d) ∙ of_sub d

before_parts : (d : Data) → before_search d ≡ (head_at d >>= λ h. pieces_at h.source d)
unfolding before_search head_at
before_parts d = through (or_refuse (kind_at d) unknown_type) (source_at d) (granularity_at d)
  where
    through : (k : Result QueryType Refusal) (s : Result (List ℕ) Refusal) (g : Result Granularity Refusal)
        → (k >>= λ _. s >>= λ s'. g >>= λ _. pieces_at s' d) ≡ ((k >>= λ k'. s >>= λ s'. g >>= λ g'. Ok (head_by k' s' g')) >>= λ h. pieces_at h.source d)
    through (Err e) s g = refl
    through (Ok k) (Err e) g = refl
    through (Ok k) (Ok s) (Err e) = refl
    through (Ok k) (Ok s) (Ok g) = refl

before_is : (d : Data) (h : Head) → head_at d ≡ Ok h → before_search d ≡ pieces_at h.source d
before_is d h is = before_parts d ∙ ap (λ r. r >>= λ h'. pieces_at h'.source d) is

pub sub_head : (d : Data) (e : QueryFault) → Refuses e (head_at d) → ReportsAfter (before_search d) e (subquery_at d)
sub_head d e h = after (before_search d) e (subquery_at d) (subst (Refuses e) (of_sub_parts d) (stop (head_at d) (λ h'. after_head subs d h') e h))

pub sub_times : (d : Data) (h : Head) (e : QueryFault) → head_at d ≡ Ok h → ReportsAfter (pieces_at h.source d) e (span_at h.source d) → ReportsAfter (before_search d) e (subquery_at d)
sub_times d h e is t =
    carried (pieces_at h.source d) (span_at h.source d) (before_search d) (subquery_at d) e (subst (λ r. IsOk r) (sym (before_is d h is)))
    (λ other reported. reports e (subquery_at d) (subst (Refuses e) (of_sub_parts d) (at_times subs d (Refuses e) h is (stop (span_at h.source d) (λ i. after_times subs d h i) e (refuses e (span_at h.source d) other reported))))) t

pub sub_tail : (d : Data) (h : Head) (t : Span) (e : QueryFault) → head_at d ≡ Ok h → span_at h.source d ≡ Ok t → Refuses e (tail_at h.kind d) → ReportsAfter (before_search d) e (subquery_at d)
sub_tail d h t e is read l =
    after (before_search d) e (subquery_at d)
    (subst (Refuses e) (of_sub_parts d) (at_tail subs d (Refuses e) h t is read (stop (tail_at h.kind d) (λ l'. Ok (record { query = query_by h t.intervals l'; asked = t.asked })) e l)))

pub sub_is : (d : Data) (h : Head) (t : Span) (l : Tail) → head_at d ≡ Ok h → span_at h.source d ≡ Ok t → tail_at h.kind d ≡ Ok l
    → subquery_at d ≡ Ok (record { query = query_by h t.intervals l; asked = t.asked })
sub_is d h t l is read more = sym (of_sub_parts d) ∙ all_parts subs d h t l is read more

-- what reads as pieces and intervals is of both
pub span_bound : (s : List ℕ) (d : Data) (span : Span) → span_at s d ≡ Ok span → (apart_at s d ≡ Ok span.asked) × (query_intervals_at d ≡ Ok span.intervals)
unfolding span_at
span_bound s d span read =
    let a = bound (apart_at s d) (after_apart d) span read in
    let i = bound (query_intervals_at d) (λ i'. Ok (record { asked = a.0; intervals = i' })) span a.2 in
    let same : ◌≡◌ {A = Span} (record { asked = a.0; intervals = i.0 }) span = same_ok (record { asked = a.0; intervals = i.0 }) span i.2 in
    (a.1 ∙ ap (λ t. Ok t.asked) same, i.1 ∙ ap (λ t. Ok t.intervals) same)

pieces_ok : (s : List ℕ) (d : Data) (all : List Asked) → apart_at s d ≡ Ok all → IsOk (pieces_at s d)
unfolding apart_at
pieces_ok s d all read = let p = bound (pieces_at s d) (λ all'. apart_answer all') all read in subst (λ r. IsOk r) (sym p.1) refl

-- what stands before the search reads where the whole does
pub before_ok : (d : Data) (sub : SubQuery) → subquery_at d ≡ Ok sub → IsOk (before_search d)
before_ok d sub read =
    let h = bound (head_at d) (λ h'. after_head subs d h') sub (of_sub_parts d ∙ read) in
    let t = bound (span_at h.0.source d) (λ t'. after_times subs d h.0 t') sub h.2 in
    subst (λ r. IsOk r) (sym (before_is d h.0 h.1)) (pieces_ok h.0.source d t.0.asked (span_bound h.0.source d t.0 t.1).0)
