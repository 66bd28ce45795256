-- The text of a partial is JSON that reads as the partial's.
use Rattle.std.proofs.Common.{◌≡◌, ℕ, ◌≤◌, ℤ, pos, negsuc, List, [], ◌∷◌, map, All, Option, Some, None, IfSome, option_map, option_and_then, refl, ap, ◌∙◌, arith}
use Rattle.std.specs.Prelude.{FitsSigned}
use Rattle.std.specs.Int.{w64}
use Rattle.std.proofs.lemmas.Int.{ints}
use Rattle.std.proofs.lemmas.List.Elements.{All-head, All-tail}
use Rattle.json.specs.Lex.{tokens}
use Rattle.json.specs.Tree as tree
use Rattle.serde_json.specs.Data.{Data, number, array, no_items, item}
use Rattle.serde_json.specs.Find.{of_integer}
use Rattle.serde_json.specs.View.{items_of}
use Rattle.serde_json.specs.Written.{outline, items_outline}
use Rattle.serde_json.specs.Read.{read, of_json, of_items}
use Rattle.serde_json.proofs.Numbers.{number_of-decimal, number_of-negative}
use Rattle.druid_time.specs.Instant.{IsInstant, unix_ms}
use Rattle.druid_segment_text.proofs.WrittenLemmas.{read_tokens}
use Rattle.druid_query.specs.Written.{value_data}
use Rattle.druid_partial.specs.Groups.{Group, AreWords}
use Rattle.druid_partial_text.specs.Written.{number_data, bucket_data, values_data, numbers_data, group_data, partial_data, IsHeld}
use Rattle.druid_partial_text.specs.Tokens.{tokens_of}

-- ---- lists

-- each item reads as what it was written for
pub items_read : {A : Type 0} (f : A → Data) (P : A → Type 0) → ((x : A) → P x → of_json (outline (f x)) ≡ Some (f x)) → (xs : List A) → All P xs
    → of_items (items_outline (items_of (map f xs))) ≡ Some (items_of (map f xs))
items_read f P one [] all = refl
items_read f P one (x ∷ xs) all =
    ap (λ o. option_and_then (λ d. option_map (item d) (of_items (items_outline (items_of (map f xs))))) o) (one x (All-head P x xs all))
    ∙ ap (λ o. option_map (item (f x)) o) (items_read f P one xs (All-tail P x xs all))

-- no item is deeper
pub items_shallow : {A : Type 0} (f : A → Data) (n : ℕ) → ((x : A) → tree.depth (outline (f x)) ≤ n) → (xs : List A) → tree.items_depth (items_outline (items_of (map f xs))) ≤ n
items_shallow f n one [] = omega arith
items_shallow f n one (x ∷ xs) = omega (arith, one x, items_shallow f n one xs)

-- ---- partials

pub integer_read : (z : ℤ) → FitsSigned w64 z → of_json (outline (number (of_integer z))) ≡ Some (number (of_integer z))
integer_read (pos n) fits = ap (option_map number) (number_of-decimal n (omega (arith, ints)))
integer_read (negsuc n) fits = ap (option_map number) (number_of-negative n (omega (arith, ints)))

value_read : (value : Option (List ℕ)) → of_json (outline (value_data value)) ≡ Some (value_data value)
value_read None = refl
value_read (Some text) = refl

number_read : (x : Option ℤ) → IfSome x (FitsSigned w64) → of_json (outline (number_data x)) ≡ Some (number_data x)
number_read None fits = refl
number_read (Some z) fits = integer_read z fits

values_read : (values : List (Option (List ℕ))) → of_json (outline (values_data values)) ≡ Some (values_data values)
values_read values = ap (option_map array) (items_read value_data (λ _. Unit {0}) (λ v _. value_read v) values (λ k d h. tt))

numbers_read : (numbers : List (Option ℤ)) → AreWords numbers → of_json (outline (numbers_data numbers)) ≡ Some (numbers_data numbers)
numbers_read numbers words = ap (option_map array) (items_read number_data (λ x. IfSome x (FitsSigned w64)) number_read numbers words)

pub bucket_fits : (t : ℕ) → IsInstant t → FitsSigned w64 (unix_ms t)
bucket_fits t h = omega (arith, ints)

three_read : (a b c : Data) → of_json (outline a) ≡ Some a → of_json (outline b) ≡ Some b → of_json (outline c) ≡ Some c
    → of_items (items_outline (item a (item b (item c no_items)))) ≡ Some (item a (item b (item c no_items)))
three_read a b c first second third = rw (first, second, third) refl

group_read : (g : Group) → IsHeld g → of_json (outline (group_data g)) ≡ Some (group_data g)
group_read g held =
    ap (option_map array)
    (three_read (bucket_data g.key.bucket) (values_data g.key.values) (numbers_data g.numbers) (integer_read (unix_ms g.key.bucket) (bucket_fits g.key.bucket held.bucket))
    (values_read g.key.values) (numbers_read g.numbers held.words))

value_shallow : (value : Option (List ℕ)) → tree.depth (outline (value_data value)) ≤ 0
value_shallow None = omega arith
value_shallow (Some text) = omega arith

number_shallow : (x : Option ℤ) → tree.depth (outline (number_data x)) ≤ 0
number_shallow None = omega arith
number_shallow (Some z) = omega arith

group_shallow : (g : Group) → tree.depth (outline (group_data g)) ≤ 2
group_shallow g = omega (arith, items_shallow value_data 0 value_shallow g.key.values, items_shallow number_data 0 number_shallow g.numbers)

pub partial_reads : (groups : List Group) → All IsHeld groups → of_json (outline (partial_data groups)) ≡ Some (partial_data groups)
partial_reads groups held = ap (option_map array) (items_read group_data IsHeld group_read groups held)

pub partial_shallow : (groups : List Group) → tree.depth (outline (partial_data groups)) ≤ 3
partial_shallow groups = omega (arith, items_shallow group_data 2 group_shallow groups)

-- what was written of a partial is read as it
pub partial_read : (groups : List Group) (text : List ℕ) → All IsHeld groups → tokens text ≡ tokens_of (partial_data groups) → read text ≡ Some (partial_data groups)
partial_read groups text held same = read_tokens (partial_data groups) text same (partial_reads groups held) (omega (arith, partial_shallow groups))
