-- Where a filter reads, so does what is inside.
use Rattle.std.proofs.Common.{◌≡◌, ℕ, ◌+◌, ◌<◌, List, ◌∷◌, get_or, drop, length, Option, Some, None, IsSome, option_map, refl, sym, subst}
use Rattle.std.proofs.lemmas.List.{drop_more}
use Rattle.serde_json.specs.Data.{Data, Items}
use Rattle.serde_json.specs.View.{view, items_view}
use Rattle.serde_json.specs.declared.value.Value.{Value}
use Rattle.druid_base.specs.Options.{◌>>=◌}
use Rattle.druid_filter.specs.Filters.{Condition, has_among, all_of, any_of, is_not, Conditions, condition}
use Rattle.druid_base.specs.Each.{each_of}
use Rattle.druid_base.specs.Fields.{text_or_null}
use Rattle.druid_query.specs.Filters.{filter_at, each_filter}
use Rattle.druid_query_text.specs.Levels.{Layer, among, all, any, negation, layer_at, layer_says}
use Rattle.druid_query_text.proofs.FilterLemmas.{joined}
use Rattle.druid_query_text.proofs.RoomLemmas.{spoken, unspoken}

some_inside : {A B : Type 0} (f : A → B) (o : Option A) → IsSome (option_map f o) → IsSome o
some_inside f None h = absurd (cc)
some_inside f (Some x) h = refl

pub no_level : (d : Data) → None ≡ layer_at d → IsSome (filter_at d) → ⊥
no_level d h ok = nothing (filter_at d) (unspoken d h) ok
  where
    nothing : (o : Option Condition) → None ≡ o → IsSome o → ⊥
    nothing None h ok = absurd (cc)
    nothing (Some c) h ok = absurd (cc)

said : (d : Data) (l : Layer) → Some l ≡ layer_at d → IsSome (filter_at d) → IsSome (layer_says l)
said d l h ok = subst (λ o. IsSome o) (sym (spoken d l h)) ok

pub among_reads : (d : Data) (x : List ℕ) (ds : Items) → Some (among x ds) ≡ layer_at d → IsSome (filter_at d) → IsSome (each_of text_or_null ds)
among_reads d x ds h ok = some_inside (has_among x) (each_of text_or_null ds) (said d (among x ds) h ok)

pub all_reads : (d : Data) (ds : Items) → Some (all ds) ≡ layer_at d → IsSome (filter_at d) → IsSome (each_filter ds)
all_reads d ds h ok = some_inside all_of (each_filter ds) (said d (all ds) h ok)

pub any_reads : (d : Data) (ds : Items) → Some (any ds) ≡ layer_at d → IsSome (filter_at d) → IsSome (each_filter ds)
any_reads d ds h ok = some_inside any_of (each_filter ds) (said d (any ds) h ok)

pub negation_reads : (d e : Data) → Some (negation e) ≡ layer_at d → IsSome (filter_at d) → IsSome (filter_at e)
negation_reads d e h ok = some_inside is_not (filter_at e) (said d (negation e) h ok)

first_reads : (done : List Condition) (o : Option Condition) (rest : Option Conditions) → IsSome (joined done (o >>= λ c. rest >>= λ cs. Some (condition c cs))) → IsSome o
first_reads done None rest h = absurd (cc)
first_reads done (Some c) rest h = refl

pub item_reads : (done : List Condition) (vs : List Value) (i : ℕ) (v : Value) → i < length vs → v ≡ get_or vs i v → joined done (each_filter (items_view (drop i vs))) ≡ each_filter (items_view vs)
    → IsSome (each_filter (items_view vs)) → IsSome (filter_at (view v))
unfolding filter_at
item_reads done vs i v h is same ok =
    let next : IsSome (joined done (each_filter (items_view (get_or vs i v ∷ drop (i + 1) vs)))) = subst (λ (ws : List Value). IsSome (joined done (each_filter (items_view ws)))) (drop_more vs i v h) (subst (λ o. IsSome o) (sym same) ok) in
    subst (λ (w : Value). IsSome (filter_at (view w))) (sym is) (first_reads done (filter_at (view (get_or vs i v))) (each_filter (items_view (drop (i + 1) vs))) next)
