-- Partials, made of what was read.
use Rattle.std.proofs.Common.{◌≡◌, ℕ, zero, suc, ◌+◌, ◌<◌, ◌≤◌, arith, ℤ, List, [], ◌∷◌, ◌++◌, length, get_or, drop, map, All, Bool, false, Option, Some, None, IsSome, option_map, option_and_then, refl, sym, ap, subst, ◌∙◌, String, Global, string_bytes}
use Rattle.std.specs.List.{AllByRecursion, AllAdjacentBelow, IsDistinct}
use Rattle.std.specs.List.Sorted.{IsPermutation, IsSortedByKey}
use Rattle.std.specs.Ordering.{is_lt, is_eq, ordering_reverse, eq_by_cmp}
use Rattle.std.specs.declared.cmp.Ordering.{Ordering}
use Rattle.std.specs.declared.cmp.Ordering.TheVariants.{Less, Equal, Greater}
use Rattle.std.proofs.lemmas.Bool.{false≢true}
use Rattle.std.proofs.lemmas.Option.{same_Some}
use Rattle.std.proofs.lemmas.List.{get_or-map, length-map}
use Rattle.std.proofs.lemmas.List.Sorted.{All-permutation, IsPermutation-sym, IsPermutation-trans, IsPermutation-map}
use Rattle.std.proofs.lemmas.Map.Keys.{IsDistinct-IsPermutation, IsDistinct-from_sorted, sorted_from_all_adjacent}
use Rattle.serde_json.specs.Data.{Data, null, boolean, number, string, array, object, Items}
use Rattle.serde_json.specs.Find.{as_array}
use Rattle.serde_json.specs.View.{view, items_view}
use Rattle.serde_json.specs.declared.value.Value.{Value}
use Rattle.druid_base.proofs.OrderLemmas.{reverse-Greater}
use Rattle.druid_base.specs.Options.{◌>>=◌}
use Rattle.druid_filter.specs.Values.{nullable_texts_of}
use Rattle.druid_query.specs.Query.{Query}
use Rattle.druid_query.specs.declared.aggregator.AggregatorKind.{AggregatorKind}
use Rattle.druid_base.specs.Each.{each_of}
use Rattle.druid_base.specs.Fields.{text_or_null}
use Rattle.druid_base.proofs.EachLemmas.{with_front, each_of_more, each_of_last, each_of_refused}
use Rattle.druid_partial.specs.Groups.{Key, Group, key_of, key_cmp, InOrder}
use Rattle.druid_partial.specs.Orders.{key_cmp-total}
use Rattle.druid_partial.specs.Partials.{IsPartial, IsGroupFor, IsPartialFor, kinds_of}
use Rattle.druid_partial_text.specs.Read.{number_or_null, Parts, parts_at, group_of, group_at, Lists, ReportsGroups}
use Rattle.druid_partial_text.specs.Borrowed.{parts_borrowed, HasWords, AreRows, IsBefore}
use Rattle.druid_partial_text.specs.declared.partial_reader.Borrowed.{Borrowed}

-- ---- copied item by item

pub map-append : {A B : Type 0} (f : A → B) (xs : List A) (x : A) → map f (xs ++ x ∷ []) ≡ map f xs ++ f x ∷ []
map-append f [] x = refl
map-append f (y ∷ xs) x = ap (λ l. f y ∷ l) (map-append f xs x)

nothing : {A : Type 0} (o : Option (List A)) → with_front [] o ≡ o
nothing None = refl
nothing (Some xs) = refl

pub ends : {A : Type 0} (f : Data → Option A) (done : List A) (vs : List Value) (i : ℕ) → length vs ≤ i → with_front done (each_of f (items_view (drop i vs))) ≡ each_of f (items_view vs)
    → each_of f (items_view vs) ≡ Some done
ends f done vs i h before = sym before ∙ each_of_last f done vs i h ∙ ap Some (nil_right done)
  where
    nil_right : {A : Type 0} (xs : List A) → xs ++ [] ≡ xs
    nil_right [] = refl
    nil_right (x ∷ xs) = ap (λ l. x ∷ l) (nil_right xs)

abbrev pub Made : {A : Type 0} → (Data → Option A) → List A → List Value → ℕ → Type 0
Made f done vs i = with_front done (each_of f (items_view (drop i vs))) ≡ each_of f (items_view vs)

pub more : {A : Type 0} (f : Data → Option A) (done : List A) (vs : List Value) (i : ℕ) (v : Value) (x : A) → i < length vs → v ≡ get_or vs i v → f (view v) ≡ Some x → Made f done vs i
    → Made f (done ++ x ∷ []) vs (i + 1)
more f done vs i v x h is read before = each_of_more f done vs i v x h is read ∙ before

pub values_more : (done : List (Option (String Global))) (vs : List Value) (i : ℕ) (v : Value) (x : Option (String Global)) → i < length vs → v ≡ get_or vs i v
    → text_or_null (view v) ≡ Some (option_map string_bytes x) → Made text_or_null (nullable_texts_of done) vs i → Made text_or_null (nullable_texts_of (done ++ x ∷ [])) vs (i + 1)
values_more done vs i v x h is read before =
    subst (λ (l : List (Option (List ℕ))). Made text_or_null l vs (i + 1)) (sym (map-append (option_map string_bytes) done x)) (more text_or_null (nullable_texts_of done) vs i v (option_map string_bytes x) h is read before)

pub values_last : (done : List (Option (String Global))) (vs : List Value) (i : ℕ) → length vs ≤ i → Made text_or_null (nullable_texts_of done) vs i
    → each_of text_or_null (items_view vs) ≡ Some (nullable_texts_of done)
values_last done vs i h before = ends text_or_null (nullable_texts_of done) vs i h before

pub numbers_more : (done : List (Option ℤ)) (vs : List Value) (i : ℕ) (v : Value) (x : Option ℤ) → i < length vs → v ≡ get_or vs i v
    → Some x ≡ number_or_null (view v) → Made number_or_null done vs i → Made number_or_null (done ++ x ∷ []) vs (i + 1)
numbers_more done vs i v x h is read before = more number_or_null done vs i v x h is (sym read) before

pub numbers_last : (done : List (Option ℤ)) (vs : List Value) (i : ℕ) → length vs ≤ i → Made number_or_null done vs i → each_of number_or_null (items_view vs) ≡ Some done
numbers_last done vs i h before = ends number_or_null done vs i h before

pub groups_more : (done : List Group) (vs : List Value) (i : ℕ) (v : Value) (x : Group) → i < length vs → v ≡ get_or vs i v
    → group_at (view v) ≡ Some x → Made group_at done vs i → Made group_at (done ++ x ∷ []) vs (i + 1)
groups_more done vs i v x h is read before = more group_at done vs i v x h is read before

pub groups_last : (done : List Group) (vs : List Value) (i : ℕ) → length vs ≤ i → Made group_at done vs i → each_of group_at (items_view vs) ≡ Some done
groups_last done vs i h before = ends group_at done vs i h before

-- ---- each item of a list that reads does

pub some_reads : {A : Type 0} (f : Data → Option A) (done : List A) (vs : List Value) (i : ℕ) (v : Value) (o : Option A) → f (view v) ≡ o → i < length vs → v ≡ get_or vs i v → Made f done vs i
    → IsSome (each_of f (items_view vs)) → IsSome o
some_reads f done vs i v (Some x) e h is before reads = refl
some_reads {A} f done vs i v None e h is before reads =
    let none : None ≡ each_of f (items_view vs) = sym (each_of_refused f done vs i v h is e) ∙ before in
    subst (λ (o : Option (List A)). IsSome o) (sym none) reads

pub value_reads : (done : List (Option (String Global))) (vs : List Value) (i : ℕ) (v : Value) → i < length vs → v ≡ get_or vs i v → Made text_or_null (nullable_texts_of done) vs i
    → IsSome (each_of text_or_null (items_view vs)) → IsSome (text_or_null (view v))
value_reads done vs i v h is before reads = some_reads text_or_null (nullable_texts_of done) vs i v (text_or_null (view v)) refl h is before reads

pub row_reads : (done : List Group) (vs : List Value) (i : ℕ) (v : Value) → i < length vs → v ≡ get_or vs i v → Made group_at done vs i
    → IsSome (each_of group_at (items_view vs)) → IsSome (group_at (view v))
row_reads done vs i v h is before reads = some_reads group_at done vs i v (group_at (view v)) refl h is before reads

-- what reads as a group has parts, whose lists read
pub no_parts : (d : Data) → None ≡ parts_at d → IsSome (group_at d) → ⊥
no_parts d none reads = let e : IsSome {T = Group} None = subst (λ (o : Option Parts). IsSome (option_and_then group_of o)) (sym none) reads in absurd (cc)

abbrev of_lists : ℕ → Option (List (Option (List ℕ))) → Option (List (Option ℤ)) → Option Group
of_lists bucket vs ns = vs >>= λ values. ns >>= λ numbers. Some (record { key = record { bucket = bucket; values = values }; numbers = numbers })

both_read : (bucket : ℕ) (vs : Option (List (Option (List ℕ)))) (ns : Option (List (Option ℤ))) → IsSome (of_lists bucket vs ns) → IsSome vs × IsSome ns
both_read bucket None ns reads = absurd (cc)
both_read bucket (Some xs) None reads = absurd (cc)
both_read bucket (Some xs) (Some ys) reads = (refl, refl)

lists_read : (d : Data) (parts : Parts) → Some parts ≡ parts_at d → IsSome (group_at d) → IsSome (each_of text_or_null parts.values) × IsSome (each_of number_or_null parts.numbers)
unfolding group_of
lists_read d parts row reads =
    both_read parts.bucket (each_of text_or_null parts.values) (each_of number_or_null parts.numbers)
    (subst (λ (o : Option Parts). IsSome (option_and_then group_of o)) (sym row) reads)

pub values_read : (d : Data) (row : Borrowed) → Some (parts_borrowed row) ≡ parts_at d → IsSome (group_at d) → IsSome (each_of text_or_null (items_view row.values.now))
values_read d row is reads = (lists_read d (parts_borrowed row) is reads).0

pub numbers_read : (d : Data) (row : Borrowed) → Some (parts_borrowed row) ≡ parts_at d → IsSome (group_at d) → IsSome (each_of number_or_null (items_view row.numbers.now))
numbers_read d row is reads = (lists_read d (parts_borrowed row) is reads).1

-- a row whose lists were read
pub group_made : (d : Data) (parts : Parts) (values : List (Option (List ℕ))) (numbers : List (Option ℤ)) → Some parts ≡ parts_at d → each_of text_or_null parts.values ≡ Some values
    → each_of number_or_null parts.numbers ≡ Some numbers → group_at d ≡ Some (record { key = record { bucket = parts.bucket; values = values }; numbers = numbers })
unfolding group_of
group_made d parts values numbers row vs ns = ap (option_and_then group_of) (sym row) ∙ rw (vs, ns) refl

-- ---- in order

nowhere : Group
nowhere = record { key = record { bucket = 0; values = [] }; numbers = [] }

pub ascending : (gs : List Group) → AllAdjacentBelow IsBefore gs (length gs) → InOrder gs
ascending gs below =
    sorted_from_all_adjacent key_cmp-total (map key_of gs) (key_of nowhere) (λ k h.
    let many = length-map gs key_of in
    rw (get_or-map key_of gs k nowhere (key_of nowhere) (omega arith), get_or-map key_of gs (k + 1) nowhere (key_of nowhere) (omega arith))
    (below k nowhere (omega arith)))

abbrev same_key : Key → Key → Bool
same_key = eq_by_cmp key_cmp

is_eq-reverse : (o : Ordering) → is_eq (ordering_reverse o) ≡ is_eq o
is_eq-reverse Less = refl
is_eq-reverse Equal = refl
is_eq-reverse Greater = refl

flips : (a b : Key) → same_key a b ≡ same_key b a
flips a b = ap is_eq (key_cmp-total.antisymm a b) ∙ is_eq-reverse (key_cmp b a)

all_at : {K : Type 0} (P : K → Type 0) (ks : List K) (i : ℕ) (d : K) → AllByRecursion P ks → i < length ks → P (get_or ks i d)
all_at P [] i d h l = absurd (omega arith)
all_at P (k ∷ ks) zero d h l = h.0
all_at P (k ∷ ks) (suc i) d h l = all_at P ks i d h.1 (omega arith)

next_differs : {K : Type 0} (e : K → K → Bool) (ks : List K) (i : ℕ) (d : K) → IsDistinct e ks → i + 1 < length ks → e (get_or ks i d) (get_or ks (i + 1) d) ≡ false
unfolding IsDistinct
next_differs e [] i d h l = absurd (omega arith)
next_differs e (k ∷ []) i d h l = absurd (omega arith)
next_differs e (k ∷ m ∷ ks) zero d h l = h.0.0
next_differs e (k ∷ m ∷ ks) (suc i) d h l =
    let same : suc i + 1 ≡ suc (i + 1) = omega arith in
    rw same (next_differs e (m ∷ ks) i d h.1 (omega arith))

below_next : (a b : Key) (o : Ordering) → key_cmp a b ≡ o → same_key a b ≡ false → is_lt (key_cmp b a) ≡ false → key_cmp a b ≡ Less
below_next a b Less e other not = e
below_next a b Equal e other not = absurd (false≢true (sym other ∙ ap is_eq e))
below_next a b Greater e other not = absurd (false≢true (sym not ∙ ap is_lt (reverse-Greater (key_cmp a b) (key_cmp b a) (key_cmp-total.antisymm a b) e)))

distinct_ascends : (gs : List Group) → IsSortedByKey key_of key_cmp gs → IsDistinct same_key (map key_of gs) → AllAdjacentBelow IsBefore gs (length gs)
distinct_ascends gs sorted once k d h =
    let many = length-map gs key_of in
    let other : same_key (key_of (get_or gs k d)) (key_of (get_or gs (k + 1) d)) ≡ false =
    rw (← get_or-map key_of gs k d (key_of d) (omega arith), ← get_or-map key_of gs (k + 1) d (key_of d) (omega arith)) (next_differs same_key (map key_of gs) k (key_of d) once (omega arith)) in
    below_next (key_of (get_or gs k d)) (key_of (get_or gs (k + 1) d)) (key_cmp (key_of (get_or gs k d)) (key_of (get_or gs (k + 1) d))) refl other (sorted k d (omega arith) h)

-- what does not ascend once it is sorted has a key twice
pub not_ascending : (rows sorted others : List Group) → IsPermutation rows sorted → IsSortedByKey key_of key_cmp sorted → (AllAdjacentBelow IsBefore sorted (length sorted) → ⊥)
    → IsPermutation rows others → InOrder others → ⊥
not_ascending rows sorted others moved by_key not other ordered =
    let between = IsPermutation-trans others rows sorted (IsPermutation-sym rows others other) moved in
    let once = IsDistinct-IsPermutation same_key flips (map key_of others) (map key_of sorted) (IsPermutation-map key_of others sorted between) (IsDistinct-from_sorted key_cmp (map key_of others) ordered) in
    not (distinct_ascends sorted by_key once)

-- ---- the whole

list_of : (q : Query) (d : Data) (rows : List Group) → Lists q d rows → (o : Option Items) → as_array d ≡ o → (items : Items) × (o ≡ Some items) × (each_of group_at items ≡ Some rows)
list_of q d rows listed None is = let e : None ≡ Some rows = sym (ap (option_and_then (each_of group_at)) is) ∙ listed.read in absurd (cc)
list_of q d rows listed (Some items) is = (items, refl, sym (ap (option_and_then (each_of group_at)) is) ∙ listed.read)

pub no_list : (q : Query) (d : Data) → None ≡ as_array d → (rows : List Group) → Lists q d rows → ⊥
no_list q d none rows listed = let l = list_of q d rows listed None (sym none) in let e : None ≡ Some l.0 = l.1 in cc

same_items : (q : Query) (d : Data) (items : Items) (rows : List Group) → Some items ≡ as_array d → Lists q d rows → each_of group_at items ≡ Some rows
same_items q d items rows is listed = ap (option_and_then (each_of group_at)) is ∙ listed.read

pub no_such_rows : (q : Query) (d : Data) (items : Items) → Some items ≡ as_array d → (AreRows q items → ⊥) → (rows : List Group) → Lists q d rows → ⊥
no_such_rows q d items is not rows listed = not (rows, same_items q d items rows is listed, listed.each)

pub is_list : (d : Data) (items : Items) → Some items ≡ as_array d → d ≡ array items
is_list null items is = absurd (cc)
is_list (boolean b) items is = absurd (cc)
is_list (number n) items is = absurd (cc)
is_list (string s) items is = absurd (cc)
is_list (array ds) items is = ap array (sym (same_Some items ds is))
is_list (object ms) items is = absurd (cc)

pub rows_read : (q : Query) (items : Items) → AreRows q items → IsSome (each_of group_at items)
rows_read q items rows = subst (λ (o : Option (List Group)). IsSome o) (sym rows.1) refl

pub no_rows : (q : Query) (d : Data) → ((rows : List Group) → Lists q d rows → ⊥) → (groups : List Group) → ReportsGroups q d groups → ⊥
no_rows q d none groups h = none h.rows h.listed

pub rows_listed : (q : Query) (d : Data) (items : Items) → d ≡ array items → AreRows q items → (rows : List Group) × Lists q d rows
rows_listed q d items is rows =
    subst (λ (e : Data). (rows : List Group) × Lists q e rows) (sym is) (rows.0, record { read = rows.1; each = rows.2 })

pub not_reported : (q : Query) (d : Data) (items : Items) → d ≡ array items → ((groups : List Group) → ReportsGroups q (array items) groups → ⊥) → (groups : List Group) → ReportsGroups q d groups → ⊥
not_reported q d items is none groups h = none groups (subst (λ (e : Data). ReportsGroups q e groups) is h)

pub is_reported : (q : Query) (d : Data) (items : Items) (groups : List Group) → d ≡ array items → ReportsGroups q (array items) groups → ReportsGroups q d groups
is_reported q d items groups is reported = subst (λ (e : Data). ReportsGroups q e groups) (sym is) reported

pub doubled : (q : Query) (items : Items) (made : List Group) → each_of group_at items ≡ Some made
    → ((rows : List Group) → IsPermutation made rows → InOrder rows → ⊥) → (groups : List Group) → ReportsGroups q (array items) groups → ⊥
doubled q items made read none groups h =
    let same : made ≡ h.rows = same_Some made h.rows (sym read ∙ h.listed.read) in
    none groups (subst (λ (rows : List Group). IsPermutation rows groups) (sym same) h.same) h.ordered

each_for : (q : Query) (items : Items) (made : List Group) → AreRows q items → each_of group_at items ≡ Some made → All (IsGroupFor q) made
each_for q items made rows read = subst (All (IsGroupFor q)) (same_Some rows.0 made (sym rows.1 ∙ read)) rows.2

pub reported : (q : Query) (items : Items) (made groups : List Group) → AreRows q items → each_of group_at items ≡ Some made → IsPermutation made groups → InOrder groups
    → ReportsGroups q (array items) groups
reported q items made groups rows read moved ordered = record {
  rows = made;
  listed = record { read = read; each = each_for q items made rows read };
  same = moved;
  ordered = ordered;
}

pub reported_for : (q : Query) (items : Items) (kinds : List AggregatorKind) (made groups : List Group) → AreRows q items → each_of group_at items ≡ Some made → IsPermutation made groups → kinds ≡ kinds_of q
    → IsPartialFor q (record { kinds = kinds; groups = groups })
reported_for q items kinds made groups rows read moved is = record { kinds = is; each = All-permutation (IsGroupFor q) made groups moved (each_for q items made rows read) }

pub reported_valid : (q : Query) (items : Items) (kinds : List AggregatorKind) (made groups : List Group) → AreRows q items → each_of group_at items ≡ Some made → IsPermutation made groups → InOrder groups → All HasWords made → kinds ≡ kinds_of q
    → IsPartial (record { kinds = kinds; groups = groups })
reported_valid q items kinds made groups rows read moved ordered words is =
    let each = All-permutation (IsGroupFor q) made groups moved (each_for q items made rows read) in
    let held = All-permutation HasWords made groups moved words in
    record {
      ordered = ordered;
      numbers = λ k g h. record { one_each = (each k g h).numbers ∙ sym (length-map q.aggregations (λ a. a.kind)) ∙ sym (ap length is); words = held k g h };
    }
