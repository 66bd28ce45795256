-- Filters, read level by level.
use Rattle.std.proofs.Common.{◌≡◌, ℕ, ◌+◌, ◌<◌, ◌≤◌, max, zero, suc, List, [], ◌∷◌, ◌++◌, map, get_or, drop, length, drop_of_length-le, codes, Option, Some, None, option_map, option_and_then, is_some, if◌then◌else◌, true, false, Bool, Ordering, Less, Equal, Greater, refl, sym, ap, ◌∙◌, subst, arith}
use Rattle.std.specs.Ordering.{nat_cmp, match_ordering}
use Rattle.std.specs.Cmp.Lexicographic.{slice_cmp}
use Rattle.std.specs.Str.{bytes_eq}
use Rattle.std.proofs.lemmas.List.{drop_more}
use Rattle.std.proofs.lemmas.Option.{same_Some}
use Rattle.serde_json.specs.Data.{Data, null, boolean, number, string, array, object, Items, Members, no_members, member, depth, items_depth, members_depth}
use Rattle.serde_json.specs.Find.{get, get_member, as_array}
use Rattle.serde_json.specs.View.{view, items_view}
use Rattle.serde_json.specs.declared.value.Value.{Value}
use Rattle.druid_base.specs.Options.{◌>>=◌}
use Rattle.druid_filter.specs.Filters.{Condition, has, has_among, all_of, any_of, is_not, Conditions, no_conditions, condition, conditions_of, says, each_says}
use Rattle.druid_filter.specs.declared.filter.Filter.{Filter}
use Rattle.std.proofs.lemmas.List.{map-append}
use Rattle.druid_base.specs.Each.{each_of}
use Rattle.druid_base.specs.Fields.{text_or_null, text_at}
use Rattle.druid_query.specs.Filters.{selector_in, among_in, filter_of_type, filter_at, filter_in, filters_in, filters_at, each_filter}
use Rattle.druid_query_text.specs.Levels.{Layer, selector, among, all, any, negation, selector_layer, among_layer, fields_at, layer_named, layer_at, layer_says, layer_of, IsWithin}
use Rattle.druid_query_text.specs.declared.filter.FilterLevel.{FilterLevel}

-- ---- what stands at a key

choice : {A B : Type 0} (f : A → Option B) (o : Ordering) (x : A) (rest : Option B) (found : Option A) → rest ≡ option_and_then f found
    → match_ordering o rest (f x) rest ≡ option_and_then f (match_ordering o found (Some x) found)
choice f Less x rest found e = e
choice f Equal x rest found e = refl
choice f Greater x rest found e = e

filter_in-get : (key : List ℕ) (ms : Members) → filter_in key ms ≡ option_and_then filter_at (get_member key ms)
unfolding filter_at
filter_in-get key no_members = refl
filter_in-get key (member k d ms) = choice filter_at (slice_cmp nat_cmp key k) d (filter_in key ms) (get_member key ms) (filter_in-get key ms)

filters_in-get : (key : List ℕ) (ms : Members) → filters_in key ms ≡ option_and_then filters_at (get_member key ms)
unfolding filter_at
filters_in-get key no_members = refl
filters_in-get key (member k d ms) = choice filters_at (slice_cmp nat_cmp key k) d (filters_in key ms) (get_member key ms) (filters_in-get key ms)

filters_at-array : (d : Data) → filters_at d ≡ option_and_then each_filter (as_array d)
unfolding filter_at
filters_at-array null = refl
filters_at-array (boolean b) = refl
filters_at-array (number n) = refl
filters_at-array (string s) = refl
filters_at-array (array ds) = refl
filters_at-array (object ms) = refl

-- ---- one level

-- the filters of the list at a key
fields_read : (ms : Members) → filters_in (codes "fields") ms ≡ option_and_then each_filter (fields_at (object ms))
fields_read ms = filters_in-get (codes "fields") ms ∙ through (get_member (codes "fields") ms)
  where
    through : (found : Option Data) → option_and_then filters_at found ≡ option_and_then each_filter (option_and_then as_array found)
    through None = refl
    through (Some d) = filters_at-array d

all_says : (found : Option Items) → option_map all_of (option_and_then each_filter found) ≡ (option_map all found >>= layer_says)
all_says None = refl
all_says (Some ds) = refl

any_says : (found : Option Items) → option_map any_of (option_and_then each_filter found) ≡ (option_map any found >>= layer_says)
any_says None = refl
any_says (Some ds) = refl

negation_says : (found : Option Data) → option_map is_not (option_and_then filter_at found) ≡ (option_map negation found >>= layer_says)
negation_says None = refl
negation_says (Some d) = refl

selector_says : (ms : Members) → selector_in ms ≡ (selector_layer (object ms) >>= layer_says)
unfolding selector_in
selector_says ms = both (text_at (codes "dimension") (object ms)) (option_and_then text_or_null (get_member (codes "value") ms))
  where
    both : (a : Option (List ℕ)) (b : Option (Option (List ℕ))) → (a >>= λ dimension. b >>= λ value. Some (has dimension value)) ≡ ((a >>= λ dimension. b >>= λ value. Some (selector dimension value)) >>= layer_says)
    both None b = refl
    both (Some x) None = refl
    both (Some x) (Some y) = refl

among_says : (ms : Members) → among_in ms ≡ (among_layer (object ms) >>= layer_says)
unfolding among_in
among_says ms = both (text_at (codes "dimension") (object ms)) (option_and_then as_array (get_member (codes "values") ms))
  where
    wanted : (x : List ℕ) (o : Option (List (Option (List ℕ)))) → (o >>= λ w. Some (has_among x w)) ≡ option_map (has_among x) o
    wanted x None = refl
    wanted x (Some w) = refl

    both : (a : Option (List ℕ)) (b : Option Items) → (a >>= λ dimension. b >>= λ values. each_of text_or_null values >>= λ w. Some (has_among dimension w)) ≡ ((a >>= λ dimension. b >>= λ values. Some (among dimension values)) >>= layer_says)
    both None b = refl
    both (Some x) None = refl
    both (Some x) (Some ds) = wanted x (each_of text_or_null ds)

chosen : (a b c d e : Bool) (u v w x y : Option Condition) (p q r s t : Option Layer)
    → u ≡ (p >>= layer_says) → v ≡ (q >>= layer_says) → w ≡ (r >>= layer_says) → x ≡ (s >>= layer_says) → y ≡ (t >>= layer_says)
    → (if a then u else (if b then v else (if c then w else (if d then x else (if e then y else None)))))
    ≡ ((if a then p else (if b then q else (if c then r else (if d then s else (if e then t else None))))) >>= layer_says)
chosen true b c d e u v w x y p q r s t f g h i j = f
chosen false true c d e u v w x y p q r s t f g h i j = g
chosen false false true d e u v w x y p q r s t f g h i j = h
chosen false false false true e u v w x y p q r s t f g h i j = i
chosen false false false false true u v w x y p q r s t f g h i j = j
chosen false false false false false u v w x y p q r s t f g h i j = refl

of_kind : (kind : List ℕ) (ms : Members) → filter_of_type kind ms (filters_in (codes "fields") ms) (filter_in (codes "field") ms) ≡ (layer_named kind (object ms) >>= layer_says)
unfolding layer_named
of_kind kind ms =
    let fields = fields_read ms in
    chosen (bytes_eq kind (codes "selector")) (bytes_eq kind (codes "in")) (bytes_eq kind (codes "and")) (bytes_eq kind (codes "or")) (bytes_eq kind (codes "not"))
    (selector_in ms) (among_in ms) (option_map all_of (filters_in (codes "fields") ms)) (option_map any_of (filters_in (codes "fields") ms)) (option_map is_not (filter_in (codes "field") ms))
    (selector_layer (object ms)) (among_layer (object ms)) (option_map all (fields_at (object ms))) (option_map any (fields_at (object ms))) (option_map negation (get (codes "field") (object ms)))
    (selector_says ms) (among_says ms)
    (ap (option_map all_of) fields ∙ all_says (fields_at (object ms)))
    (ap (option_map any_of) fields ∙ any_says (fields_at (object ms)))
    (ap (option_map is_not) (filter_in-get (codes "field") ms) ∙ negation_says (get (codes "field") (object ms)))

-- a filter is what one level of it says
pub of_layer : (d : Data) → filter_at d ≡ (layer_at d >>= layer_says)
unfolding filter_at layer_at
of_layer null = refl
of_layer (boolean b) = refl
of_layer (number n) = refl
of_layer (string s) = refl
of_layer (array ds) = refl
of_layer (object ms) = through (text_at (codes "type") (object ms))
  where
    through : (kind : Option (List ℕ)) → (kind >>= λ k. filter_of_type k ms (filters_in (codes "fields") ms) (filter_in (codes "field") ms)) ≡ ((kind >>= λ k. layer_named k (object ms)) >>= layer_says)
    through None = refl
    through (Some k) = of_kind k ms

-- ---- how deep

at_key : (o : Ordering) (rest : Option Data) (d e : Data) (n : ℕ) → (rest ≡ Some e → depth e ≤ n) → match_ordering o rest (Some d) rest ≡ Some e → depth e ≤ max (depth d) n
at_key Less rest d e n more h = omega (arith, more h)
at_key Equal rest d e n more h = omega (arith, ap depth (same_Some d e h))
at_key Greater rest d e n more h = omega (arith, more h)

member_depth : (key : List ℕ) (ms : Members) (e : Data) → get_member key ms ≡ Some e → depth e ≤ members_depth ms
member_depth key no_members e h = absurd (cc)
member_depth key (member k d ms) e h = at_key (slice_cmp nat_cmp key k) (get_member key ms) d e (members_depth ms) (member_depth key ms e) h

-- what stands at a key nests less deep
pub get_depth : (key : List ℕ) (d e : Data) → get key d ≡ Some e → depth e < depth d
get_depth key null e h = absurd (cc)
get_depth key (boolean b) e h = absurd (cc)
get_depth key (number n) e h = absurd (cc)
get_depth key (string s) e h = absurd (cc)
get_depth key (array ds) e h = absurd (cc)
get_depth key (object ms) e h = omega (arith, member_depth key ms e h)

array_depth : (d : Data) (ds : Items) → as_array d ≡ Some ds → items_depth ds < depth d
array_depth null ds h = absurd (cc)
array_depth (boolean b) ds h = absurd (cc)
array_depth (number n) ds h = absurd (cc)
array_depth (string s) ds h = absurd (cc)
array_depth (array es) ds h = omega (arith, ap items_depth (same_Some es ds h))
array_depth (object ms) ds h = absurd (cc)

fields_depth : (d : Data) (ds : Items) → fields_at d ≡ Some ds → items_depth ds < depth d
fields_depth d ds h = through (get (codes "fields") d) (λ e. get_depth (codes "fields") d e) h
  where
    through : (found : Option Data) → ((e : Data) → found ≡ Some e → depth e < depth d) → option_and_then as_array found ≡ Some ds → items_depth ds < depth d
    through None below h = absurd (cc)
    through (Some e) below h = omega (arith, array_depth e ds h, below e refl)

-- what is inside a filter nests less deep
pub within : (d : Data) (l : Layer) → layer_at d ≡ Some l → IsWithin (depth d) l
unfolding layer_at layer_named
within d l h = through (text_at (codes "type") d) h
  where
    listed : (make : Items → Layer) → ((ds : Items) → items_depth ds < depth d → IsWithin (depth d) (make ds)) → (o : Option Items) → ((ds : Items) → o ≡ Some ds → items_depth ds < depth d) → option_map make o ≡ Some l → IsWithin (depth d) l
    listed make whole None below h = absurd (cc)
    listed make whole (Some ds) below h = subst (IsWithin (depth d)) (same_Some (make ds) l h) (whole ds (below ds refl))

    single : (o : Option Data) → ((e : Data) → o ≡ Some e → depth e < depth d) → option_map negation o ≡ Some l → IsWithin (depth d) l
    single None below h = absurd (cc)
    single (Some e) below h = subst (IsWithin (depth d)) (same_Some (negation e) l h) (below e refl)

    picked : (a : Option (List ℕ)) (b : Option (Option (List ℕ))) → (a >>= λ dimension. b >>= λ value. Some (selector dimension value)) ≡ Some l → IsWithin (depth d) l
    picked None b h = absurd (cc)
    picked (Some x) None h = absurd (cc)
    picked (Some x) (Some y) h = subst (IsWithin (depth d)) (same_Some (selector x y) l h) tt

    wanted : (a : Option (List ℕ)) (b : Option Items) → (a >>= λ dimension. b >>= λ values. Some (among dimension values)) ≡ Some l → IsWithin (depth d) l
    wanted None b h = absurd (cc)
    wanted (Some x) None h = absurd (cc)
    wanted (Some x) (Some y) h = subst (IsWithin (depth d)) (same_Some (among x y) l h) tt

    chosen : (a b c e f : Bool)
        → (if a then selector_layer d else (if b then among_layer d else (if c then option_map all (fields_at d) else (if e then option_map any (fields_at d) else (if f then option_map negation (get (codes "field") d) else None))))) ≡ Some l
        → IsWithin (depth d) l
    chosen true b c e f h = picked (text_at (codes "dimension") d) (option_and_then text_or_null (get (codes "value") d)) h
    chosen false true c e f h = wanted (text_at (codes "dimension") d) (option_and_then as_array (get (codes "values") d)) h
    chosen false false true e f h = listed all (λ ds le. le) (fields_at d) (fields_depth d) h
    chosen false false false true f h = listed any (λ ds le. le) (fields_at d) (fields_depth d) h
    chosen false false false false true h = single (get (codes "field") d) (λ e. get_depth (codes "field") d e) h
    chosen false false false false false h = absurd (cc)

    through : (kind : Option (List ℕ)) → (kind >>= λ k. layer_named k d) ≡ Some l → IsWithin (depth d) l
    through None h = absurd (cc)
    through (Some k) h = chosen (bytes_eq k (codes "selector")) (bytes_eq k (codes "in")) (bytes_eq k (codes "and")) (bytes_eq k (codes "or")) (bytes_eq k (codes "not")) h

-- no item nests deeper than the list
pub item_depth : (vs : List Value) (i : ℕ) (v : Value) → i < length vs → v ≡ get_or vs i v → depth (view v) ≤ items_depth (items_view vs)
item_depth [] i v h is = absurd (omega arith)
item_depth (w ∷ vs) zero v h is = let same : depth (view v) ≡ depth (view w) = ap (λ x. depth (view x)) is in omega (arith, same)
item_depth (w ∷ vs) (suc i) v h is = let below : depth (view v) ≤ items_depth (items_view vs) = item_depth vs i v (omega arith) is in omega (arith, below)

-- a filter is read by its level, and is none where it has none
pub judged : (d : Data) (l : Layer) → Some l ≡ layer_at d → is_some (layer_says l) ≡ is_some (filter_at d)
judged d l h = ap is_some (ap (λ o. o >>= layer_says) h ∙ sym (of_layer d))

pub none_judged : (d : Data) → None ≡ layer_at d → false ≡ is_some (filter_at d)
none_judged d h = ap is_some (ap (λ o. o >>= layer_says) h ∙ sym (of_layer d))

-- ---- lists of filters

one_more : (first : Option Condition) (rest : Option Conditions) → true ≡ is_some first → is_some rest ≡ is_some (first >>= λ c. rest >>= λ cs. Some (condition c cs))
one_more None rest h = absurd (cc)
one_more (Some c) None h = refl
one_more (Some c) (Some cs) h = refl

one_refused : (first : Option Condition) (rest : Option Conditions) → false ≡ is_some first → false ≡ is_some (first >>= λ c. rest >>= λ cs. Some (condition c cs))
one_refused None rest h = refl
one_refused (Some c) rest h = absurd (cc)

-- an item is a filter
pub filters_more : (vs : List Value) (i : ℕ) (v : Value) → i < length vs → v ≡ get_or vs i v → true ≡ is_some (filter_at (view v))
    → is_some (each_filter (items_view (drop (i + 1) vs))) ≡ is_some (each_filter (items_view (drop i vs)))
unfolding filter_at
filters_more vs i v h is read =
    let first : true ≡ is_some (filter_at (view (get_or vs i v))) = read ∙ ap (λ (w : Value). is_some (filter_at (view w))) is in
    one_more (filter_at (view (get_or vs i v))) (each_filter (items_view (drop (i + 1) vs))) first
    ∙ sym (ap (λ (ws : List Value). is_some (each_filter (items_view ws))) (drop_more vs i v h))

-- an item is none
pub filters_refused : (vs : List Value) (i : ℕ) (v : Value) → i < length vs → v ≡ get_or vs i v → false ≡ is_some (filter_at (view v))
    → false ≡ is_some (each_filter (items_view (drop i vs)))
unfolding filter_at
filters_refused vs i v h is read =
    let first : false ≡ is_some (filter_at (view (get_or vs i v))) = read ∙ ap (λ (w : Value). is_some (filter_at (view w))) is in
    one_refused (filter_at (view (get_or vs i v))) (each_filter (items_view (drop (i + 1) vs))) first
    ∙ sym (ap (λ (ws : List Value). is_some (each_filter (items_view ws))) (drop_more vs i v h))

pub filters_last : (vs : List Value) (i : ℕ) → length vs ≤ i → true ≡ is_some (each_filter (items_view (drop i vs)))
unfolding filter_at
filters_last vs i h = sym (ap (λ (ws : List Value). is_some (each_filter (items_view ws))) (drop_of_length-le vs h))

-- a list's read filters in one
pub map_some : {A B : Type 0} (f : A → B) (o : Option A) → is_some o ≡ is_some (option_map f o)
map_some f None = refl
map_some f (Some x) = refl

-- the layer of a level, by the level's case
pub reported : (l m : FilterLevel) (d : Data) → l ≡ m → Some (layer_of l) ≡ layer_at d → Some (layer_of m) ≡ layer_at d
reported l m d e h = sym (ap (λ (k : FilterLevel). Some (layer_of k)) e) ∙ h

-- ---- filters built one by one

abbrev pub before : List Condition → Conditions → Conditions
before [] cs = cs
before (x ∷ xs) cs = condition x (before xs cs)

-- those that were read, and then what the rest reads as
abbrev pub joined : List Condition → Option Conditions → Option Conditions
joined done rest = option_map (before done) rest

before_one : (done : List Condition) (x : Condition) (cs : Conditions) → before (done ++ x ∷ []) cs ≡ before done (condition x cs)
before_one [] x cs = refl
before_one (d ∷ done) x cs = ap (condition d) (before_one done x cs)

joined_one : (done : List Condition) (x : Condition) (first : Option Condition) (rest : Option Conditions) → first ≡ Some x
    → joined (done ++ x ∷ []) rest ≡ joined done (first >>= λ c. rest >>= λ cs. Some (condition c cs))
joined_one done x None rest h = absurd (cc)
joined_one done x (Some y) None h = refl
joined_one done x (Some y) (Some cs) h = ap Some (before_one done x cs ∙ ap (λ c. before done (condition c cs)) (sym (same_Some y x h)))

before_none : (done : List Condition) → before done no_conditions ≡ conditions_of done
before_none [] = refl
before_none (x ∷ done) = ap (condition x) (before_none done)

pub joined_more : (done : List Filter) (f : Filter) (vs : List Value) (i : ℕ) (v : Value) → i < length vs → v ≡ get_or vs i v → filter_at (view v) ≡ Some (says f)
    → joined (map says (done ++ f ∷ [])) (each_filter (items_view (drop (i + 1) vs))) ≡ joined (map says done) (each_filter (items_view (drop i vs)))
unfolding filter_at
joined_more done f vs i v h is read =
    ap (λ (xs : List Condition). joined xs (each_filter (items_view (drop (i + 1) vs)))) (map-append says done (f ∷ []))
    ∙ joined_one (map says done) (says f) (filter_at (view (get_or vs i v))) (each_filter (items_view (drop (i + 1) vs))) (ap (λ (w : Value). filter_at (view w)) (sym is) ∙ read)
    ∙ sym (ap (λ (ws : List Value). joined (map says done) (each_filter (items_view ws))) (drop_more vs i v h))

pub joined_last : (done : List Filter) (vs : List Value) (i : ℕ) → length vs ≤ i → joined (map says done) (each_filter (items_view (drop i vs))) ≡ Some (each_says done)
unfolding filter_at
joined_last done vs i h =
    ap (λ (ws : List Value). joined (map says done) (each_filter (items_view ws))) (drop_of_length-le vs h)
    ∙ ap Some (before_none (map says done))
