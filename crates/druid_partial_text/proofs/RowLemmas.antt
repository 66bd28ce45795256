-- What each row of a partial says.
use Rattle.std.proofs.Common.{◌≡◌, ◌≢◌, ℕ, zero, suc, ◌<◌, arith, ℤ, List, [], ◌∷◌, length, get_or, map, All, true, is_some, Option, Some, None, IsSome, slice_get, slice_index_or, refl, sym, ap, subst, ◌∙◌}
use Rattle.std.specs.Option.{IsSomeAnd}
use Rattle.std.specs.List.{list_all}
use Rattle.std.proofs.lemmas.Option.{same_Some}
use Rattle.std.proofs.lemmas.List.{length-map}
use Rattle.std.proofs.lemmas.List.Elements.{All-cons, All-nil, All-head, All-tail}
use Rattle.serde_json.specs.Data.{Data}
use Rattle.serde_json.specs.View.{view, items_view}
use Rattle.serde_json.specs.declared.value.Value.{Value}
use Rattle.druid_base.specs.Options.{◌>>=◌}
use Rattle.druid_query.specs.Query.{Query, Aggregator}
use Rattle.druid_base.specs.Each.{each_of}
use Rattle.druid_base.specs.Fields.{text_or_null}
use Rattle.druid_query.specs.declared.aggregator.AggregatorKind.{AggregatorKind}
use Rattle.druid_query.specs.declared.aggregator.AggregatorKind.TheVariants.{Count}
use Rattle.druid_base.proofs.EachLemmas.{all_reads, each_of_length}
use Rattle.druid_partial.specs.Groups.{Group}
use Rattle.druid_partial.specs.Partials.{IsBucketOf, IsGroupFor, kinds_of}
use Rattle.druid_partial_text.specs.Read.{number_or_null, group_of, group_at}
use Rattle.druid_partial_text.specs.Borrowed.{parts_borrowed, IsNumberFor, AreNumbersFor, AreRows}
use Rattle.druid_partial_text.specs.declared.partial_reader.Borrowed.{Borrowed}

-- ---- one number

reported : (o : Option (Option ℤ)) (n : Option ℤ) (kind : AggregatorKind) → Some n ≡ o → (kind ≡ Count → IsSome n) → IsSomeAnd o (λ x. kind ≡ Count → IsSome x)
reported None n kind is counts = absurd (cc)
reported (Some x) n kind is counts = λ e. subst IsSome (same_Some n x is) (counts e)

unreported : (o : Option (Option ℤ)) (kind : AggregatorKind) → None ≡ o → IsSomeAnd o (λ x. kind ≡ Count → IsSome x) → ⊥
unreported None kind is h = h
unreported (Some x) kind is h = cc

counted : (o : Option (Option ℤ)) (kind : AggregatorKind) → Some None ≡ o → IsSomeAnd o (λ x. kind ≡ Count → IsSome x) → kind ≢ Count
counted None kind is h e = cc
counted (Some None) kind is h e = let some : IsSome {T = ℤ} None = h e in cc
counted (Some (Some z)) kind is h e = cc

pub number_reported : (kind : AggregatorKind) (d : Data) (z : ℤ) → Some (Some z) ≡ number_or_null d → IsNumberFor kind d
number_reported kind d z is = reported (number_or_null d) (Some z) kind is (λ e. refl)

pub null_reported : (kind : AggregatorKind) (d : Data) → Some None ≡ number_or_null d → kind ≢ Count → IsNumberFor kind d
null_reported kind d is other = reported (number_or_null d) None kind is (λ e. absurd (other e))

pub null_counted : (kind : AggregatorKind) (d : Data) → Some None ≡ number_or_null d → IsNumberFor kind d → kind ≢ Count
null_counted kind d is h = counted (number_or_null d) kind is h

pub none_reported : (kind : AggregatorKind) (d : Data) → None ≡ number_or_null d → IsNumberFor kind d → ⊥
none_reported kind d is h = unreported (number_or_null d) kind is h

-- ---- a number for each aggregator

abbrev kinds : List Aggregator → List AggregatorKind
kinds all = map (λ (a : Aggregator). a.kind) all

abbrev joined : Option (Option ℤ) → Option (List (Option ℤ)) → Option (List (Option ℤ))
joined o rest = o >>= λ x. rest >>= λ xs. Some (x ∷ xs)

both_reported : (o : Option (Option ℤ)) (rest : Option (List (Option ℤ))) (kind : AggregatorKind) (ks : List AggregatorKind)
    → IsSomeAnd o (λ x. kind ≡ Count → IsSome x) → IsSomeAnd rest (AreNumbersFor ks) → IsSomeAnd (joined o rest) (AreNumbersFor (kind ∷ ks))
both_reported None rest kind ks one more = absurd one
both_reported (Some x) None kind ks one more = absurd more
both_reported (Some x) (Some xs) kind ks one more = record { one_each = ap suc more.one_each; counted = at }
  where
    at : (place : ℕ) → slice_get (kind ∷ ks) place ≡ Some Count → IsSome (slice_index_or (x ∷ xs) place None)
    at zero e = one (same_Some kind Count e)
    at (suc place) e = more.counted place e

first_reported : (o : Option (Option ℤ)) (rest : Option (List (Option ℤ))) (kind : AggregatorKind) (ks : List AggregatorKind)
    → IsSomeAnd (joined o rest) (AreNumbersFor (kind ∷ ks)) → IsSomeAnd o (λ x. kind ≡ Count → IsSome x)
first_reported None rest kind ks h = h
first_reported (Some x) None kind ks h = absurd h
first_reported (Some x) (Some xs) kind ks h = λ e. h.counted 0 (ap Some e)

rest_reported : (o : Option (Option ℤ)) (rest : Option (List (Option ℤ))) (kind : AggregatorKind) (ks : List AggregatorKind)
    → IsSomeAnd (joined o rest) (AreNumbersFor (kind ∷ ks)) → IsSomeAnd rest (AreNumbersFor ks)
rest_reported None rest kind ks h = absurd h
rest_reported (Some x) None kind ks h = absurd h
rest_reported (Some x) (Some xs) kind ks h =
    let many : suc (length xs) ≡ suc (length ks) = h.one_each in
    record { one_each = omega arith; counted = λ place e. h.counted (suc place) e }

none_more : (kind : AggregatorKind) (ks : List AggregatorKind) → AreNumbersFor (kind ∷ ks) [] → ⊥
none_more kind ks h = let many : 0 ≡ suc (length ks) = h.one_each in omega arith

more_none : (o : Option (Option ℤ)) (rest : Option (List (Option ℤ))) → IsSomeAnd (joined o rest) (AreNumbersFor []) → ⊥
more_none None rest h = h
more_none (Some x) None h = h
more_none (Some x) (Some xs) h = let many : suc (length xs) ≡ 0 = h.one_each in omega arith

abbrev pub EachNumber : List Aggregator → List Value → ℕ → Type 0
EachNumber all vs n = (k : ℕ) (a : Aggregator) (v : Value) → k < n → IsNumberFor (get_or all k a).kind (view (get_or vs k v))

pub numbers_reported : (all : List Aggregator) (vs : List Value) → length vs ≡ length all → EachNumber all vs (length vs) → IsSomeAnd (each_of number_or_null (items_view vs)) (AreNumbersFor (kinds all))
numbers_reported [] [] many each = record { one_each = refl; counted = λ place e. absurd (cc) }
numbers_reported [] (v ∷ vs) many each = absurd (omega arith)
numbers_reported (a ∷ all) [] many each = absurd (omega arith)
numbers_reported (a ∷ all) (v ∷ vs) many each =
    both_reported (number_or_null (view v)) (each_of number_or_null (items_view vs)) a.kind (kinds all) (each 0 a v (omega arith))
    (numbers_reported all vs (omega arith) (λ k b w h. each (suc k) b w (omega arith)))

pub numbers_many : (all : List Aggregator) (vs : List Value) → IsSomeAnd (each_of number_or_null (items_view vs)) (AreNumbersFor (kinds all)) → length vs ≡ length all
numbers_many [] [] h = refl
numbers_many [] (v ∷ vs) h = absurd (more_none (number_or_null (view v)) (each_of number_or_null (items_view vs)) h)
numbers_many (a ∷ all) [] h = absurd (none_more a.kind (kinds all) h)
numbers_many (a ∷ all) (v ∷ vs) h = ap suc (numbers_many all vs (rest_reported (number_or_null (view v)) (each_of number_or_null (items_view vs)) a.kind (kinds all) h))

pub numbers_at : (all : List Aggregator) (vs : List Value) → IsSomeAnd (each_of number_or_null (items_view vs)) (AreNumbersFor (kinds all)) → EachNumber all vs (length vs)
numbers_at [] [] h k a v below = absurd (omega arith)
numbers_at [] (w ∷ vs) h k a v below = absurd (more_none (number_or_null (view w)) (each_of number_or_null (items_view vs)) h)
numbers_at (b ∷ all) [] h k a v below = absurd (omega arith)
numbers_at (b ∷ all) (w ∷ vs) h zero a v below = first_reported (number_or_null (view w)) (each_of number_or_null (items_view vs)) b.kind (kinds all) h
numbers_at (b ∷ all) (w ∷ vs) h (suc k) a v below =
    numbers_at all vs (rest_reported (number_or_null (view w)) (each_of number_or_null (items_view vs)) b.kind (kinds all) h) k a v (omega arith)

-- ---- a group

abbrev of_parts : ℕ → Option (List (Option (List ℕ))) → Option (List (Option ℤ)) → Option Group
of_parts bucket vs ns = vs >>= λ values. ns >>= λ numbers. Some (record { key = record { bucket = bucket; values = values }; numbers = numbers })

group_there : (q : Query) (bucket n : ℕ) (vs : Option (List (Option (List ℕ)))) (ns : Option (List (Option ℤ))) → IsBucketOf q bucket → ((xs : List (Option (List ℕ))) → vs ≡ Some xs → length xs ≡ n)
    → n ≡ length q.dimensions → is_some vs ≡ true → IsSomeAnd ns (AreNumbersFor (kinds_of q)) → IsSomeAnd (of_parts bucket vs ns) (IsGroupFor q)
group_there q bucket n None ns label len many some numbers = absurd (cc)
group_there q bucket n (Some xs) None label len many some numbers = absurd numbers
group_there q bucket n (Some xs) (Some ys) label len many some numbers = record {
  bucket = label;
  values = len xs refl ∙ many;
  numbers = numbers.one_each ∙ length-map q.aggregations (λ a. a.kind);
  counted = numbers.counted;
}

record Reported (q : Query) (bucket n : ℕ) (vs : Option (List (Option (List ℕ)))) (ns : Option (List (Option ℤ))) : Type 0 where
  label : IsBucketOf q bucket
  many : n ≡ length q.dimensions
  values : is_some vs ≡ true
  numbers : IsSomeAnd ns (AreNumbersFor (kinds_of q))

group_reported : (q : Query) (bucket n : ℕ) (vs : Option (List (Option (List ℕ)))) (ns : Option (List (Option ℤ))) → ((xs : List (Option (List ℕ))) → vs ≡ Some xs → length xs ≡ n)
    → IsSomeAnd (of_parts bucket vs ns) (IsGroupFor q) → Reported q bucket n vs ns
group_reported q bucket n None ns len h = absurd h
group_reported q bucket n (Some xs) None len h = absurd h
group_reported q bucket n (Some xs) (Some ys) len h = record {
  label = h.bucket;
  many = sym (len xs refl) ∙ h.values;
  values = refl;
  numbers = record { one_each = h.numbers ∙ sym (length-map q.aggregations (λ a. a.kind)); counted = h.counted };
}

reported_of : (q : Query) (row : Borrowed) → IsSomeAnd (group_of (parts_borrowed row)) (IsGroupFor q)
    → Reported q row.bucket (length row.values.now) (each_of text_or_null (items_view row.values.now)) (each_of number_or_null (items_view row.numbers.now))
unfolding group_of
reported_of q row h =
    group_reported q row.bucket (length row.values.now) (each_of text_or_null (items_view row.values.now)) (each_of number_or_null (items_view row.numbers.now))
    (λ xs e. each_of_length text_or_null row.values.now xs e) h

-- a row that is such a group has all four
pub label_of : (q : Query) (row : Borrowed) → IsSomeAnd (group_of (parts_borrowed row)) (IsGroupFor q) → IsBucketOf q row.bucket
label_of q row h = (reported_of q row h).label

pub many_of : (q : Query) (row : Borrowed) → IsSomeAnd (group_of (parts_borrowed row)) (IsGroupFor q) → length row.values.now ≡ length q.dimensions
many_of q row h = (reported_of q row h).many

pub values_of : (q : Query) (row : Borrowed) → IsSomeAnd (group_of (parts_borrowed row)) (IsGroupFor q) → list_all (λ v. is_some (text_or_null (view v))) row.values.now ≡ true
values_of q row h = all_reads text_or_null row.values.now ∙ (reported_of q row h).values

pub numbers_of : (q : Query) (row : Borrowed) → IsSomeAnd (group_of (parts_borrowed row)) (IsGroupFor q)
    → IsSomeAnd (each_of number_or_null (items_view row.numbers.now)) (AreNumbersFor (map (λ a. a.kind) q.aggregations))
numbers_of q row h = (reported_of q row h).numbers

-- and one that has them is
pub group_is : (q : Query) (row : Borrowed) → IsBucketOf q row.bucket → length row.values.now ≡ length q.dimensions → list_all (λ v. is_some (text_or_null (view v))) row.values.now ≡ true
    → IsSomeAnd (each_of number_or_null (items_view row.numbers.now)) (AreNumbersFor (map (λ a. a.kind) q.aggregations)) → IsSomeAnd (group_of (parts_borrowed row)) (IsGroupFor q)
unfolding group_of
group_is q row label many values numbers =
    group_there q row.bucket (length row.values.now) (each_of text_or_null (items_view row.values.now)) (each_of number_or_null (items_view row.numbers.now)) label
    (λ xs e. each_of_length text_or_null row.values.now xs e) many (sym (all_reads text_or_null row.values.now) ∙ values) numbers

-- ---- rows

abbrev pub IsRow : Query → Data → Type 0
IsRow q d = IsSomeAnd (group_at d) (IsGroupFor q)

abbrev pub EachRow : Query → List Value → ℕ → Type 0
EachRow q vs n = (k : ℕ) (v : Value) → k < n → IsRow q (view (get_or vs k v))

row_more : (q : Query) (o : Option Group) (rest : Option (List Group)) → IsSomeAnd o (IsGroupFor q) → (gs : List Group) × (rest ≡ Some gs) × All (IsGroupFor q) gs
    → (gs : List Group) × ((o >>= λ g. rest >>= λ gs. Some (g ∷ gs)) ≡ Some gs) × All (IsGroupFor q) gs
row_more q None rest one more = absurd one
row_more q (Some g) rest one more =
    (g ∷ more.0, ap (λ (r : Option (List Group)). r >>= λ gs. Some (g ∷ gs)) more.1, All-cons (IsGroupFor q) g more.0 one more.2)

pub rows_all : (q : Query) (vs : List Value) → EachRow q vs (length vs) → AreRows q (items_view vs)
rows_all q [] each = ([], refl, All-nil (IsGroupFor q))
rows_all q (v ∷ vs) each =
    row_more q (group_at (view v)) (each_of group_at (items_view vs)) (each 0 v (omega arith)) (rows_all q vs (λ k w h. each (suc k) w (omega arith)))

row_first : (q : Query) (o : Option Group) (rest : Option (List Group)) (gs : List Group) → (o >>= λ g. rest >>= λ gs. Some (g ∷ gs)) ≡ Some gs → All (IsGroupFor q) gs → IsSomeAnd o (IsGroupFor q)
row_first q None rest gs is each = absurd (cc)
row_first q (Some g) None gs is each = absurd (cc)
row_first q (Some g) (Some hs) gs is each =
    All-head (IsGroupFor q) g hs (subst (All (IsGroupFor q)) (sym (same_Some (g ∷ hs) gs is)) each)

row_rest : (q : Query) (o : Option Group) (rest : Option (List Group)) (gs : List Group) → (o >>= λ g. rest >>= λ gs. Some (g ∷ gs)) ≡ Some gs → All (IsGroupFor q) gs
    → (hs : List Group) × (rest ≡ Some hs) × All (IsGroupFor q) hs
row_rest q None rest gs is each = absurd (cc)
row_rest q (Some g) None gs is each = absurd (cc)
row_rest q (Some g) (Some hs) gs is each =
    (hs, refl, All-tail (IsGroupFor q) g hs (subst (All (IsGroupFor q)) (sym (same_Some (g ∷ hs) gs is)) each))

pub rows_at : (q : Query) (vs : List Value) → AreRows q (items_view vs) → EachRow q vs (length vs)
rows_at q [] rows k v below = absurd (omega arith)
rows_at q (w ∷ vs) rows zero v below = row_first q (group_at (view w)) (each_of group_at (items_view vs)) rows.0 rows.1 rows.2
rows_at q (w ∷ vs) rows (suc k) v below = rows_at q vs (row_rest q (group_at (view w)) (each_of group_at (items_view vs)) rows.0 rows.1 rows.2) k v (omega arith)
