-- Lists written item by item, as tokens.
use Rattle.std.proofs.Common.{◌≡◌, ℕ, ℤ, pos, negsuc, ◌+◌, ◌<◌, ◌≤◌, List, [], ◌∷◌, ◌++◌, length, get_or, drop, map, Option, Some, option_map, String, Global, string_bytes, refl, sym, ap, ◌∙◌, append_assoc, drop_of_length-le}
use Rattle.std.proofs.lemmas.List.{drop_more}
use Rattle.std.specs.Fmt.{signed_decimal}
use Rattle.json.specs.Token.{Token, begin_array, end_array, number}
use Rattle.serde_json.specs.Data.{Data, Items, no_items, item}
use Rattle.serde_json.specs.Find.{of_integer}
use Rattle.serde_json.specs.Written.{number_text}
use Rattle.serde_json.specs.View.{items_of}
use Rattle.serde_json.proofs.Texts.{print-outline}
use Rattle.json.specs.Print.{print}
use Rattle.druid_time.specs.Instant.{unix_ms}
use Rattle.druid_filter.specs.Values.{nullable_texts_of}
use Rattle.druid_query.specs.Written.{value_data}
use Rattle.druid_partial.specs.Groups.{Group}
use Rattle.druid_partial_text.specs.Written.{number_data, values_data, numbers_data, group_data, partial_data, partial_text}
use Rattle.druid_partial_text.specs.Tokens.{tokens_of, rest_of}

-- ---- numbers

integer_text : (z : ℤ) → number_text (of_integer z) ≡ signed_decimal z
integer_text (pos n) = refl
integer_text (negsuc n) = refl

pub number_tokens : (z : ℤ) → tokens_of (number_data (Some z)) ≡ number (signed_decimal z) ∷ []
number_tokens z = ap (λ s. number s ∷ []) (integer_text z)

-- ---- a list, item by item

-- the opening bracket is written
pub begun : (front : List Token) (ds : Items) → (front ++ begin_array ∷ []) ++ rest_of ds ≡ front ++ begin_array ∷ rest_of ds
begun front ds = append_assoc front (begin_array ∷ []) (rest_of ds)

-- the next item is written
pub more : (front done : List Token) (d : Data) (ds all : Items) → all ≡ item d ds → done ≡ tokens_of d → (front ++ done) ++ rest_of ds ≡ front ++ rest_of all
more front done d ds all is written =
    append_assoc front done (rest_of ds) ∙ ap (λ ts. front ++ (ts ++ rest_of ds)) written ∙ ap (λ items. front ++ rest_of items) (sym is)

-- none is left
pub ended : (front : List Token) (all : Items) → all ≡ no_items → front ++ end_array ∷ [] ≡ front ++ rest_of all
ended front all is = ap (λ items. front ++ rest_of items) (sym is)

abbrev pub value_items : List (Option (String Global)) → Items
value_items values = items_of (map value_data (nullable_texts_of values))

pub values_first : (front : List Token) (values : List (Option (String Global)))
    → (front ++ begin_array ∷ []) ++ rest_of (value_items values) ≡ front ++ tokens_of (values_data (nullable_texts_of values))
values_first front values = begun front (value_items values)

pub value_next : (front : List Token) (values : List (Option (String Global))) (i : ℕ) (value : Option (String Global)) → i < length values → value ≡ get_or values i value
    → (front ++ tokens_of (value_data (option_map string_bytes value))) ++ rest_of (value_items (drop (i + 1) values)) ≡ front ++ rest_of (value_items (drop i values))
value_next front values i value h is =
    more front (tokens_of (value_data (option_map string_bytes value))) (value_data (option_map string_bytes (get_or values i value))) (value_items (drop (i + 1) values)) (value_items (drop i values))
    (ap value_items (drop_more values i value h)) (ap (λ v. tokens_of (value_data (option_map string_bytes v))) is)

pub values_last : (front : List Token) (values : List (Option (String Global))) (i : ℕ) → length values ≤ i
    → front ++ end_array ∷ [] ≡ front ++ rest_of (value_items (drop i values))
values_last front values i h = ended front (value_items (drop i values)) (ap value_items (drop_of_length-le values h))

abbrev pub number_items : List (Option ℤ) → Items
number_items numbers = items_of (map number_data numbers)

pub numbers_first : (front : List Token) (numbers : List (Option ℤ))
    → (front ++ begin_array ∷ []) ++ rest_of (number_items numbers) ≡ front ++ tokens_of (numbers_data numbers)
numbers_first front numbers = begun front (number_items numbers)

pub number_next : (front : List Token) (numbers : List (Option ℤ)) (i : ℕ) (x : Option ℤ) → i < length numbers → x ≡ get_or numbers i x
    → (front ++ tokens_of (number_data x)) ++ rest_of (number_items (drop (i + 1) numbers)) ≡ front ++ rest_of (number_items (drop i numbers))
number_next front numbers i x h is =
    more front (tokens_of (number_data x)) (number_data (get_or numbers i x)) (number_items (drop (i + 1) numbers)) (number_items (drop i numbers))
    (ap number_items (drop_more numbers i x h)) (ap (λ y. tokens_of (number_data y)) is)

pub numbers_last : (front : List Token) (numbers : List (Option ℤ)) (i : ℕ) → length numbers ≤ i
    → front ++ end_array ∷ [] ≡ front ++ rest_of (number_items (drop i numbers))
numbers_last front numbers i h = ended front (number_items (drop i numbers)) (ap number_items (drop_of_length-le numbers h))

abbrev pub group_items : List Group → Items
group_items groups = items_of (map group_data groups)

pub groups_first : (front : List Token) (groups : List Group)
    → (front ++ begin_array ∷ []) ++ rest_of (group_items groups) ≡ front ++ tokens_of (partial_data groups)
groups_first front groups = begun front (group_items groups)

pub group_next : (front : List Token) (groups : List Group) (i : ℕ) (g : Group) → i < length groups → g ≡ get_or groups i g
    → (front ++ tokens_of (group_data g)) ++ rest_of (group_items (drop (i + 1) groups)) ≡ front ++ rest_of (group_items (drop i groups))
group_next front groups i g h is =
    more front (tokens_of (group_data g)) (group_data (get_or groups i g)) (group_items (drop (i + 1) groups)) (group_items (drop i groups))
    (ap group_items (drop_more groups i g h)) (ap (λ y. tokens_of (group_data y)) is)

pub groups_last : (front : List Token) (groups : List Group) (i : ℕ) → length groups ≤ i
    → front ++ end_array ∷ [] ≡ front ++ rest_of (group_items (drop i groups))
groups_last front groups i h = ended front (group_items (drop i groups)) (ap group_items (drop_of_length-le groups h))

-- ---- a group

regrouped : (a : List Token) (b m e : Token) (v n : List Token)
    → ((((a ++ b ∷ []) ++ m ∷ []) ++ v) ++ n) ++ e ∷ [] ≡ a ++ b ∷ (m ∷ [] ++ (v ++ (n ++ e ∷ [])))
regrouped a b m e v n = simp append_assoc

-- its three parts are written between brackets
pub group_written : (front : List Token) (g : Group)
    → ((((front ++ begin_array ∷ []) ++ number (signed_decimal (unix_ms g.key.bucket)) ∷ []) ++ tokens_of (values_data g.key.values)) ++ tokens_of (numbers_data g.numbers)) ++ end_array ∷ []
    ≡ front ++ tokens_of (group_data g)
group_written front g =
    regrouped front begin_array (number (signed_decimal (unix_ms g.key.bucket))) end_array (tokens_of (values_data g.key.values)) (tokens_of (numbers_data g.numbers))
    ∙ ap (λ s. front ++ begin_array ∷ (number s ∷ [] ++ (tokens_of (values_data g.key.values) ++ (tokens_of (numbers_data g.numbers) ++ end_array ∷ []))))
    (sym (integer_text (unix_ms g.key.bucket)))

-- ---- what is printed

pub partial_printed : (groups : List Group) → print (tokens_of (partial_data groups)) ≡ partial_text groups
partial_printed groups = print-outline (partial_data groups)

-- ---- an object of two members

pub two_joined : (front : List Token) (b k m e : Token) (t l : List Token) → (((((front ++ b ∷ []) ++ k ∷ []) ++ t) ++ m ∷ []) ++ l) ++ e ∷ [] ≡ front ++ b ∷ k ∷ (t ++ m ∷ (l ++ e ∷ []))
two_joined front b k m e t l = simp append_assoc
