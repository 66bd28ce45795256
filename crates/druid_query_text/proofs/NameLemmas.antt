-- The names of the result, in JSON and in the query.
use Rattle.std.proofs.Common.{◌≡◌, List, [], ◌∷◌, ◌++◌, map, Option, Some, None, IsSome, refl, ap, ◌∙◌}
use Rattle.std.specs.List.{cons_option}
use Rattle.serde_json.specs.Data.{Data}
use Rattle.serde_json.specs.View.{view, items_view}
use Rattle.serde_json.specs.declared.value.Value.{Value}
use Rattle.druid_base.specs.Options.{◌>>=◌}
use Rattle.druid_query.specs.Query.{result_names}
use Rattle.druid_base.specs.Each.{each_of}
use Rattle.druid_query.specs.Fields.{dimension_at, aggregator_at}
use Rattle.druid_query_text.specs.Found.{EachReads, readings}
use Rattle.druid_query_text.specs.Names.{output_or, name_or, all_names}

next : {A B : Type 0} (h : Option A → B) (g : A → B) → ((x : A) → h (Some x) ≡ g x) → (first : Option A) (rest : Option (List A)) (xs : List A) (seen : List B)
    → IsSome (first >>= λ y. rest >>= λ ys. Some (y ∷ ys)) → (IsSome rest → seen ≡ map g xs) → h first ∷ seen ≡ map g (cons_option first xs)
next h g same None rest xs seen all more = absurd (cc)
next h g same (Some x) None xs seen all more = absurd (cc)
next h g same (Some x) (Some ys) xs seen all more = ap (λ b. b ∷ seen) (same x) ∙ ap (λ bs. g x ∷ bs) (more refl)

-- what is seen of each item of a list that reads
map_readings : {A B : Type 0} (f : Data → Option A) (h : Option A → B) (g : A → B) → ((x : A) → h (Some x) ≡ g x) → (vs : List Value) → EachReads f vs → map (λ v. h (f (view v))) vs ≡ map g (readings f vs)
map_readings f h g same [] all = refl
map_readings f h g same (v ∷ vs) all =
    next h g same (f (view v)) (each_of f (items_view vs)) (readings f vs) (map (λ w. h (f (view w))) vs) all (map_readings f h g same vs)

pub names_read : (ds all : List Value) → EachReads dimension_at ds → EachReads aggregator_at all → all_names ds all ≡ result_names (readings dimension_at ds) (readings aggregator_at all)
names_read ds all h j =
    let outputs = map_readings dimension_at output_or (λ x. x.output_name) (λ x. refl) ds h in
    let names = map_readings aggregator_at name_or (λ x. x.name) (λ x. refl) all j in
    ap (λ xs. xs ++ map (λ v. name_or (aggregator_at (view v))) all) outputs ∙ ap (λ xs. map (λ x. x.output_name) (readings dimension_at ds) ++ xs) names
