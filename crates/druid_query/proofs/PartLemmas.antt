-- The parts of a query.
use Rattle.std.proofs.Common.{◌≡◌, ℕ, List, Option, Some, None, Ok, IsOk, codes, option_and_then, true, refl, sym, ap, ◌∙◌, subst}
use Rattle.serde_json.specs.Data.{Data}
use Rattle.serde_json.specs.Find.{get}
use Rattle.druid_time.specs.Extent.{Extent}
use Rattle.druid_time.specs.declared.granularity.Granularity.{Granularity}
use Rattle.druid_filter.specs.Filters.{Condition}
use Rattle.druid_query.specs.Query.{Query, Dimension, Aggregator, result_names, query_of}
use Rattle.druid_base.specs.Distinct.{are_distinct}
use Rattle.druid_query.specs.Refusal.{bad_field, or_refuse}
use Rattle.druid_query.specs.Fields.{kind_at, granularity_of}
use Rattle.druid_query.specs.Read.{source_at, granularity_at, intervals_at, filter_field, dimensions_at, aggregations_at, parts_at, no_more_at, query_at}
use Rattle.druid_query.specs.declared.query_type.QueryType.{QueryType}
use Rattle.druid_query.proofs.ChainLemmas.{Reading, parts_by, whole_by, steps_of, whole_bound, whole_read, whole_made, parts_made, Reads, reads}

abbrev pub queries : Reading (List Extent) Query
queries = record {
  timed = λ s d. intervals_at d;
  make = query_of;
  dimensions = λ q. q.dimensions;
  aggregations = λ q. q.aggregations;
}

pub of_parts : (d : Data) → parts_by queries d ≡ parts_at d
unfolding parts_at
of_parts d = refl

pub of_query : (d : Data) → whole_by queries d ≡ query_at d
unfolding query_at parts_at
of_query d = refl

pub granularity_made : (d : Data) (g : Granularity) → Some g ≡ option_and_then granularity_of (get (codes "granularity") d) → granularity_at d ≡ Ok g
unfolding granularity_at
granularity_made d g h = ap (λ o. or_refuse o (bad_field (codes "granularity"))) (sym h)

pub query_of_parts : (d : Data) (k : QueryType) (s : List ℕ) (g : Granularity) (i : List Extent) (f : Option Condition) (ds : List Dimension) (all : List Aggregator)
    → IsOk (query_at d) → Some k ≡ kind_at d → source_at d ≡ Ok s → Some g ≡ option_and_then granularity_of (get (codes "granularity") d) → intervals_at d ≡ Ok i → filter_field d ≡ Ok f
    → dimensions_at k d ≡ Ok ds → aggregations_at d ≡ Ok all → query_at d ≡ Ok (query_of k s g i f ds all)
query_of_parts d k s g i f ds all ok is a b c h j l =
    sym (of_query d)
    ∙ whole_made queries d (query_of k s g i f ds all) (subst (λ w. IsOk w) (sym (of_query d)) ok)
    (parts_made queries d k s g i f ds all is a (granularity_made d g b) c h j l)

-- ---- the parts of a query that reads

pub record QueryParts (d : Data) (q : Query) : Type 0 where
  pub kind : Some q.kind ≡ kind_at d
  pub source : source_at d ≡ Ok q.source
  pub granularity : granularity_at d ≡ Ok q.granularity
  pub intervals : intervals_at d ≡ Ok q.intervals
  pub filter : filter_field d ≡ Ok q.filter
  pub dimensions : dimensions_at q.kind d ≡ Ok q.dimensions
  pub aggregations : aggregations_at d ≡ Ok q.aggregations
  pub distinct : are_distinct (result_names q.dimensions q.aggregations) ≡ true

pub parts_whole : (d : Data) (q : Query) → query_at d ≡ Ok q → QueryParts d q
parts_whole d q read =
    let whole = whole_bound queries d q (of_query d ∙ read) in
    let steps = steps_of queries d q whole.0 in
    subst (QueryParts d) steps.made (record {
      kind = steps.kind_is;
      source = steps.source_is;
      granularity = steps.granularity_is;
      intervals = steps.times_is;
      filter = steps.filter_is;
      dimensions = steps.dimensions_is;
      aggregations = steps.aggregations_is;
      distinct = ap (λ p. are_distinct (result_names p.dimensions p.aggregations)) steps.made ∙ whole.1;
    })

pub query_whole : (d : Data) (q : Query) → Some q.kind ≡ kind_at d → source_at d ≡ Ok q.source → granularity_at d ≡ Ok q.granularity → intervals_at d ≡ Ok q.intervals → filter_field d ≡ Ok q.filter
    → dimensions_at q.kind d ≡ Ok q.dimensions → aggregations_at d ≡ Ok q.aggregations → no_more_at d ≡ Ok tt → are_distinct (result_names q.dimensions q.aggregations) ≡ true → query_at d ≡ Ok q
query_whole d q is a b c h j l more distinct =
    sym (of_query d)
    ∙ whole_read queries d q (parts_made queries d q.kind q.source q.granularity q.intervals q.filter q.dimensions q.aggregations is a b c h j l) more distinct

pub query_reads : (d : Data) → IsOk (query_at d) → Reads queries d
query_reads d ok = reads queries d (subst (λ w. IsOk w) (sym (of_query d)) ok)

-- ---- the granularity

pub no_granularity : (d : Data) → None ≡ option_and_then granularity_of (get (codes "granularity") d) → IsOk (granularity_at d) → ⊥
unfolding granularity_at
no_granularity d h ok = let no = subst (λ r. IsOk r) (sym (ap (λ o. or_refuse o (bad_field (codes "granularity"))) h)) ok in absurd (cc)
