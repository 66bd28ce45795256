-- Fields found by their places.
use Rattle.std.proofs.Common.{◌≡◌, ◌∙◌, ℕ, suc, ◌+◌, ◌<◌, ℤ, List, [], ◌∷◌, length, map, Bool, true, false, Option, Some, None, refl, sym, ap, arith}
use Rattle.std.specs.Prelude.{IfSome, All, option_map, option_and_then, if◌then◌else◌}
use Rattle.std.specs.Str.{bytes_eq}
use Rattle.std.proofs.lemmas.List.Elements.{All-nil, All-cons}
use Rattle.druid_segment_rows.specs.Rows.{Schema, Row}
use Rattle.druid_filter.specs.Filters.{value_in}
use Rattle.druid_query.specs.Query.{Query, Aggregator, Dimension}
use Rattle.druid_query.specs.declared.aggregator.AggregatorKind.{AggregatorKind}
use Rattle.druid_query.specs.declared.aggregator.AggregatorKind.TheVariants.{Count, LongSum, LongMin, LongMax}
use Rattle.druid_partial.specs.Groups.{Key, Group}
use Rattle.druid_partial_scan.specs.Rows.{number_in, one_or, taken, value_for}
use Rattle.druid_partial_scan.specs.Places.{place_in, at_place, places_of, source_at, source_for, source_of, sources_of, source_number, IsSource, IsPlace}

moved : (p : Option ℕ) (i : ℕ) → option_map (λ k. k + i) (option_map suc p) ≡ option_map (λ k. k + (i + 1)) p
moved None i = refl
moved (Some k) i = ap (λ n. Some n) (omega arith)

beyond_one : {X : Type 0} (v : Option X) (values : List (Option X)) (p : Option ℕ) → at_place (v ∷ values) (option_map suc p) ≡ at_place values p
beyond_one v values None = refl
beyond_one v values (Some k) = refl

nothing_at : {X : Type 0} (p : Option ℕ) → at_place {X = X} [] p ≡ None
nothing_at None = refl
nothing_at (Some k) = refl

value_step : (b : Bool) (v : Option (List ℕ)) (values : List (Option (List ℕ))) (rest : Option (List ℕ)) (p : Option ℕ) → rest ≡ at_place values p → (if b then v else rest) ≡ at_place (v ∷ values) (if b then Some 0 else option_map suc p)
value_step true v values rest p e = refl
value_step false v values rest p e = e ∙ sym (beyond_one v values p)

pub value_is : (names : List (List ℕ)) (values : List (Option (List ℕ))) (name : List ℕ) → value_in names values name ≡ at_place values (place_in names name)
value_is [] values name = refl
value_is (n ∷ names) [] name = sym (nothing_at {X = List ℕ} (place_in (n ∷ names) name))
value_is (n ∷ names) (v ∷ values) name = value_step (bytes_eq n name) v values (value_in names values name) (place_in names name) (value_is names values name)

number_step : (b : Bool) (v : Option ℤ) (values : List (Option ℤ)) (rest : Option ℤ) (p : Option ℕ) → rest ≡ at_place values p → (if b then v else rest) ≡ at_place (v ∷ values) (if b then Some 0 else option_map suc p)
number_step true v values rest p e = refl
number_step false v values rest p e = e ∙ sym (beyond_one v values p)

pub number_is : (names : List (List ℕ)) (values : List (Option ℤ)) (name : List ℕ) → number_in names values name ≡ at_place values (place_in names name)
number_is [] values name = refl
number_is (n ∷ names) [] name = sym (nothing_at {X = ℤ} (place_in (n ∷ names) name))
number_is (n ∷ names) (v ∷ values) name = number_step (bytes_eq n name) v values (number_in names values name) (place_in names name) (number_is names values name)

-- a place that is found is there
inside_step : (b : Bool) (p : Option ℕ) (n : ℕ) → IfSome p (λ k. k < n) → IfSome (if b then Some 0 else option_map suc p) (λ k. k < suc n)
inside_step true p n h = omega arith
inside_step false None n h = tt
inside_step false (Some k) n h = omega (arith, h)

pub place_inside : (names : List (List ℕ)) (name : List ℕ) → IfSome (place_in names name) (λ k. k < length names)
place_inside [] name = tt
place_inside (n ∷ names) name = inside_step (bytes_eq n name) (place_in names name) (length names) (place_inside names name)

pub are_places : (query : Query) (fields : Schema) → All (IsPlace fields) (places_of query fields)
are_places query fields = each query.dimensions
  where
    each : (ds : List Dimension) → All (IsPlace fields) (map (λ d. place_in fields.dimensions d.dimension) ds)
    each [] = All-nil (IsPlace fields)
    each (d ∷ ds) = All-cons (IsPlace fields) _ _ (place_inside fields.dimensions d.dimension) (each ds)

at_inside : (fields : Schema) (p : Option ℕ) → IfSome p (λ k. k < length fields.metrics) → IsSource fields (source_at p)
at_inside fields None h = tt
at_inside fields (Some k) h = h

then_inside : (fields : Schema) (field : Option (List ℕ)) → IfSome (option_and_then (place_in fields.metrics) field) (λ k. k < length fields.metrics)
then_inside fields None = tt
then_inside fields (Some name) = place_inside fields.metrics name

for_inside : (fields : Schema) (kind : AggregatorKind) (p : Option ℕ) → IfSome p (λ k. k < length fields.metrics) → IsSource fields (source_for kind p)
for_inside fields Count p h = tt
for_inside fields LongSum p h = at_inside fields p h
for_inside fields LongMin p h = at_inside fields p h
for_inside fields LongMax p h = at_inside fields p h

pub are_sources : (query : Query) (fields : Schema) → All (IsSource fields) (sources_of query fields)
are_sources query fields = each query.aggregations
  where
    each : (as' : List Aggregator) → All (IsSource fields) (map (source_of fields) as')
    each [] = All-nil (IsSource fields)
    each (a ∷ more) = All-cons (IsSource fields) _ _ (for_inside fields a.kind _ (then_inside fields a.field)) (each more)

-- what is read at the places is what the query gets
pub values_counted : (query : Query) (fields : Schema) (row : Row) → map (at_place row.dimensions) (places_of query fields) ≡ map (value_for fields row) query.dimensions
values_counted query fields row = each query.dimensions
  where
    each : (ds : List Dimension) → map (at_place row.dimensions) (map (λ d. place_in fields.dimensions d.dimension) ds) ≡ map (value_for fields row) ds
    each [] = refl
    each (d ∷ ds) =
        let head : at_place row.dimensions (place_in fields.dimensions d.dimension) ≡ value_for fields row d = sym (value_is fields.dimensions row.dimensions d.dimension) in
        let rest = each ds in cc

at_source : (row : Row) (p : Option ℕ) → source_number row (source_at p) ≡ at_place row.metrics p
at_source row None = refl
at_source row (Some k) = refl

then_number : (fields : Schema) (row : Row) (field : Option (List ℕ)) → at_place row.metrics (option_and_then (place_in fields.metrics) field) ≡ option_and_then (number_in fields.metrics row.metrics) field
then_number fields row None = refl
then_number fields row (Some name) = sym (number_is fields.metrics row.metrics name)

for_number : (row : Row) (kind : AggregatorKind) (p : Option ℕ) → source_number row (source_for kind p) ≡ one_or kind (at_place row.metrics p)
for_number row Count p = refl
for_number row LongSum p = at_source row p
for_number row LongMin p = at_source row p
for_number row LongMax p = at_source row p

number_counted : (fields : Schema) (row : Row) (a : Aggregator) → source_number row (source_of fields a) ≡ taken fields row a
number_counted fields row a = for_number row a.kind _ ∙ ap (one_or a.kind) (then_number fields row a.field)

pub numbers_counted : (query : Query) (fields : Schema) (row : Row) → map (source_number row) (sources_of query fields) ≡ map (taken fields row) query.aggregations
numbers_counted query fields row = each query.aggregations
  where
    each : (as' : List Aggregator) → map (source_number row) (map (source_of fields) as') ≡ map (taken fields row) as'
    each [] = refl
    each (a ∷ more) = let head = number_counted fields row a in let rest = each more in cc

-- ---- parts put together

pub key_is : (a b : ℕ) (u v : List (Option (List ℕ))) → a ≡ b → u ≡ v → (let k : Key = record { bucket = a; values = u } in k) ≡ record { bucket = b; values = v }
key_is a b u v p q i = record { bucket = p i; values = q i }

pub group_is : (k : Key) (b : ℕ) (values : List (Option (List ℕ))) (numbers : List (Option ℤ)) → b ≡ k.bucket → values ≡ k.values → (let g : Group = record { key = record { bucket = b; values = values }; numbers = numbers } in g) ≡ record { key = k; numbers = numbers }
group_is k b values numbers p q i = record { key = record { bucket = p i; values = q i }; numbers = numbers }
