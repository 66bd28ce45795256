-- What is empty, and lists of texts.
use Rattle.std.proofs.Common.{◌≡◌, ◌==◌, List, [], ◌∷◌, length, Some, None, refl, ap, ◌∙◌, true, false, Bool, is_some, arith, IsTrue, String, Global}
use Rattle.std.specs.List.{list_all}
use Rattle.std.proofs.lemmas.Option.{same_Some}
use Rattle.serde_json.specs.Data.{Data, null, boolean, number, string, array, object}
use Rattle.serde_json.specs.Find.{as_null, as_array, as_object, as_str}
use Rattle.serde_json.specs.View.{view, items_view, members_view}
use Rattle.serde_json.specs.declared.value.Value.{Value}
use Rattle.druid_query.specs.Fields.{is_empty, texts_among}
use Rattle.druid_query_slice_text.proofs.AmongLemmas.{some_of, among, none_among, not_among}

-- ---- what is empty

pub empty_null : (d : Data) → true ≡ is_some (as_null d) → true ≡ is_empty d
empty_null null h = refl
empty_null (boolean b) h = absurd (cc)
empty_null (number n) h = absurd (cc)
empty_null (string s) h = absurd (cc)
empty_null (array ds) h = absurd (cc)
empty_null (object ms) h = absurd (cc)

items_empty : (vs : List Value) → (length vs == 0) ≡ is_empty (array (items_view vs))
items_empty [] = refl
items_empty (v ∷ vs) = some_of v vs

members_empty : (ms : List (String Global × Value)) (r : Bool) → (IsTrue r → length ms ≡ 0) × (length ms ≡ 0 → IsTrue r) → r ≡ is_empty (object (members_view ms))
members_empty [] r h = h.1 refl
members_empty (m ∷ ms) true h = absurd (omega (arith, h.0 refl))
members_empty (m ∷ ms) false h = refl

pub empty_array : (d : Data) (vs : List Value) → Some (items_view vs) ≡ as_array d → (length vs == 0) ≡ is_empty d
empty_array null vs h = absurd (cc)
empty_array (boolean b) vs h = absurd (cc)
empty_array (number n) vs h = absurd (cc)
empty_array (string s) vs h = absurd (cc)
empty_array (array ds) vs h = items_empty vs ∙ ap (λ items. is_empty (array items)) (same_Some (items_view vs) ds h)
empty_array (object ms) vs h = absurd (cc)

pub empty_object : (d : Data) (ms : List (String Global × Value)) (r : Bool) → Some (members_view ms) ≡ as_object d → (IsTrue r → length ms ≡ 0) × (length ms ≡ 0 → IsTrue r) → r ≡ is_empty d
empty_object null ms r h e = absurd (cc)
empty_object (boolean b) ms r h e = absurd (cc)
empty_object (number n) ms r h e = absurd (cc)
empty_object (string s) ms r h e = absurd (cc)
empty_object (array ds) ms r h e = absurd (cc)
empty_object (object all) ms r h e = members_empty ms r e ∙ ap (λ members. is_empty (object members)) (same_Some (members_view ms) all h)

pub not_empty : (d : Data) → false ≡ is_some (as_null d) → None ≡ as_array d → None ≡ as_object d → false ≡ is_empty d
not_empty null a b c = absurd (cc)
not_empty (boolean x) a b c = refl
not_empty (number n) a b c = refl
not_empty (string s) a b c = refl
not_empty (array ds) a b c = absurd (cc)
not_empty (object ms) a b c = absurd (cc)

-- ---- lists of texts

pub texts_there : (vs : List Value) → (length vs == 0) ≡ false → list_all (λ v. is_some (as_str (view v))) vs ≡ true → Some (items_view vs) ≡ texts_among (items_view vs)
texts_there vs some each = among as_str vs some each

pub no_texts : (vs : List Value) → (length vs == 0) ≡ true → None ≡ texts_among (items_view vs)
no_texts vs none = none_among as_str vs none

pub not_texts : (vs : List Value) → list_all (λ v. is_some (as_str (view v))) vs ≡ false → None ≡ texts_among (items_view vs)
not_texts vs each = not_among as_str vs each
