-- What is read is valid.
use Rattle.std.proofs.Common.{◌≡◌, ℕ, List, [], ◌∷◌, Option, Some, None, Result, Ok, Err, is_some, if◌then◌else◌, option_map, codes, true, false, Bool, refl, subst}
use Rattle.std.proofs.lemmas.Option.{same_Some}
use Rattle.std.specs.Result.{result_ok}
use Rattle.serde_json.specs.Data.{Data, Items, no_items, item}
use Rattle.serde_json.specs.Find.{as_str, as_array}
use Rattle.druid_time.specs.Extent.{Extent, IsExtent}
use Rattle.druid_base.specs.Options.{◌>>=◌}
use Rattle.druid_time.specs.Texts.{extent_at}
use Rattle.druid_time.specs.declared.fault.TimeFault.{TimeFault}
use Rattle.druid_base.specs.Fields.{text_at}
use Rattle.druid_query.specs.Query.{Aggregator}
use Rattle.druid_base.specs.Each.{each_of}
use Rattle.druid_query.specs.Fields.{interval_of, texts_among, listed_at, interval_texts, aggregator_named, field_for, aggregator_at}
use Rattle.druid_query.specs.declared.aggregator.AggregatorKind.{AggregatorKind}
use Rattle.druid_query.specs.declared.aggregator.AggregatorKind.TheVariants.{Count, LongSum, LongMin, LongMax}
use Rattle.druid_query.proofs.BackLemmas.{Fits}
use Rattle.druid_query.proofs.ExtentLemmas.{extent_valid}

-- ---- intervals

pub text_sound : (o : Option (List ℕ)) (e : Extent) → (o >>= λ text. result_ok (extent_at text)) ≡ Some e → IsExtent e
text_sound None e h = absurd (cc)
text_sound (Some text) e h = through (extent_at text) refl h
  where
    through : (r : Result Extent TimeFault) → extent_at text ≡ r → result_ok r ≡ Some e → IsExtent e
    through (Ok x) is h = subst IsExtent (same_Some x e h) (extent_valid text x is)
    through (Err y) is h = absurd (cc)

pub interval_sound : (d : Data) (e : Extent) → interval_of d ≡ Some e → IsExtent e
interval_sound d e h = text_sound (as_str d) e h

abbrev pub HasItem : Items → Type 0
HasItem no_items = ⊥
HasItem (item d ds) = Unit {0}

among_item : (ds es : Items) → texts_among ds ≡ Some es → HasItem es
among_item no_items es h = absurd (cc)
among_item (item d ds) es h = through (is_some (each_of as_str (item d ds))) h
  where
    through : (b : Bool) → (if b then Some (item d ds) else None) ≡ Some es → HasItem es
    through true h = subst HasItem (same_Some (item d ds) es h) tt
    through false h = absurd (cc)

pub bound_item : (o : Option Items) (es : Items) → (o >>= texts_among) ≡ Some es → HasItem es
bound_item None es h = absurd (cc)
bound_item (Some ds) es h = among_item ds es h

pub texts_item : (d : Data) (es : Items) → interval_texts d ≡ Some es → HasItem es
unfolding interval_texts
texts_item d es h = through (is_some (as_str d)) (is_some (as_array d)) h
  where
    through : (a b : Bool) → (if a then Some (item d no_items) else (if b then (as_array d >>= texts_among) else (listed_at d >>= texts_among))) ≡ Some es → HasItem es
    through true b h = subst HasItem (same_Some (item d no_items) es h) tt
    through false true h = bound_item (as_array d) es h
    through false false h = bound_item (listed_at d) es h

abbrev pub IsSomeList : {A : Type 0} → List A → Type 0
IsSomeList [] = ⊥
IsSomeList (x ∷ xs) = Unit {0}

pub read_some : {A : Type 0} (f : Data → Option A) (ds : Items) (xs : List A) → HasItem ds → each_of f ds ≡ Some xs → IsSomeList xs
read_some f no_items xs has h = absurd has
read_some {A} f (item d ds) xs has h = through (f d) (each_of f ds) h
  where
    through : (first : Option A) (rest : Option (List A)) → (first >>= λ y. rest >>= λ ys. Some (y ∷ ys)) ≡ Some xs → IsSomeList xs
    through None rest h = absurd (cc)
    through (Some y) None h = absurd (cc)
    through (Some y) (Some ys) h = subst IsSomeList (same_Some (y ∷ ys) xs h) tt

-- ---- aggregators

named_field : (o : Option (List ℕ)) (f : Option (List ℕ)) → option_map Some o ≡ Some f → (x : List ℕ) × (Some x ≡ f)
named_field None f h = absurd (cc)
named_field (Some x) f h = (x, same_Some (Some x) f h)

field_fits : (k : AggregatorKind) (d : Data) (f : Option (List ℕ)) → field_for k d ≡ Some f → Fits k f
field_fits Count d f h = subst (Fits Count) (same_Some None f h) tt
field_fits LongSum d f h = let x = named_field (text_at (codes "fieldName") d) f h in subst (Fits LongSum) x.1 tt
field_fits LongMin d f h = let x = named_field (text_at (codes "fieldName") d) f h in subst (Fits LongMin) x.1 tt
field_fits LongMax d f h = let x = named_field (text_at (codes "fieldName") d) f h in subst (Fits LongMax) x.1 tt

pub aggregator_sound : (d : Data) (a : Aggregator) → aggregator_at d ≡ Some a → Fits a.kind a.field
unfolding aggregator_at
aggregator_sound d a h = typed (text_at (codes "type") d) h
  where
    fielded : (k : AggregatorKind) (name : List ℕ) (o : Option (Option (List ℕ))) → ((f : Option (List ℕ)) → o ≡ Some f → Fits k f)
        → (o >>= λ field. Some (record { name = name; kind = k; field = field })) ≡ Some a → Fits a.kind a.field
    fielded k name None fits h = absurd (cc)
    fielded k name (Some f) fits h = subst (λ (b : Aggregator). Fits b.kind b.field) (same_Some (record { name = name; kind = k; field = f }) a h) (fits f refl)

    titled : (k : AggregatorKind) (o : Option (List ℕ)) → (o >>= λ name. field_for k d >>= λ field. Some (record { name = name; kind = k; field = field })) ≡ Some a → Fits a.kind a.field
    titled k None h = absurd (cc)
    titled k (Some name) h = fielded k name (field_for k d) (field_fits k d) h

    kinded : (o : Option AggregatorKind) → (o >>= λ k. text_at (codes "name") d >>= λ name. field_for k d >>= λ field. Some (record { name = name; kind = k; field = field })) ≡ Some a → Fits a.kind a.field
    kinded None h = absurd (cc)
    kinded (Some k) h = titled k (text_at (codes "name") d) h

    typed : (o : Option (List ℕ)) → (o >>= λ text. aggregator_named text >>= λ k. text_at (codes "name") d >>= λ name. field_for k d >>= λ field. Some (record { name = name; kind = k; field = field })) ≡ Some a → Fits a.kind a.field
    typed None h = absurd (cc)
    typed (Some text) h = kinded (aggregator_named text) h
