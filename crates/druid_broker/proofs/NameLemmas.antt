-- The data sources, written name by name.
use Rattle.std.proofs.Common.{◌≡◌, ℕ, ◌+◌, ◌<◌, ◌≤◌, List, [], ◌∷◌, ◌++◌, length, get_or, drop, map, ap, drop_of_length-le}
use Rattle.std.proofs.lemmas.List.{drop_more}
use Rattle.json.specs.Token.{Token, begin_array, end_array}
use Rattle.json.specs.Token as token
use Rattle.json.specs.Print.{print}
use Rattle.serde_json.specs.Data.{Items, string}
use Rattle.serde_json.specs.View.{items_of}
use Rattle.serde_json.specs.Written.{compact_text}
use Rattle.serde_json.proofs.Texts.{print-outline}
use Rattle.druid_partial_text.specs.Tokens.{tokens_of, rest_of}
use Rattle.druid_partial_text.proofs.TokenLemmas.{begun, more, ended}
use Rattle.druid_broker.specs.Routes.{names_data}

abbrev pub name_items : List (List ℕ) → Items
name_items names = items_of (map string names)

pub names_first : (front : List Token) (names : List (List ℕ))
    → (front ++ begin_array ∷ []) ++ rest_of (name_items names) ≡ front ++ tokens_of (names_data names)
names_first front names = begun front (name_items names)

pub name_next : (front : List Token) (names : List (List ℕ)) (i : ℕ) (name : List ℕ) → i < length names → name ≡ get_or names i name
    → (front ++ token.string name ∷ []) ++ rest_of (name_items (drop (i + 1) names)) ≡ front ++ rest_of (name_items (drop i names))
name_next front names i name h is =
    more front (tokens_of (string name)) (string (get_or names i name)) (name_items (drop (i + 1) names)) (name_items (drop i names))
    (ap name_items (drop_more names i name h)) (ap (λ n. tokens_of (string n)) is)

pub names_last : (front : List Token) (names : List (List ℕ)) (i : ℕ) → length names ≤ i
    → front ++ end_array ∷ [] ≡ front ++ rest_of (name_items (drop i names))
names_last front names i h = ended front (name_items (drop i names)) (ap name_items (drop_of_length-le names h))

pub names_printed : (names : List (List ℕ)) → print (tokens_of (names_data names)) ≡ compact_text (names_data names)
names_printed names = print-outline (names_data names)
