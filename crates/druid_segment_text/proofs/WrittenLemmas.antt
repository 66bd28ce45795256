-- JSON as it is written is read as the value that it was written for.
use Rattle.std.proofs.Common.{◌≡◌, ℕ, ◌≤◌, List, [], ◌∷◌, map, Option, Some, option_and_then, refl, sym, ap, ◌∙◌, append-nil, arith}
use Rattle.std.specs.Prelude.{Contains}
use Rattle.json.specs.Token.{Token}
use Rattle.json.specs.Lex.{tokens}
use Rattle.json.specs.Json as json
use Rattle.json.specs.Tree as tree
use Rattle.json.proofs.Printed.Tokens.{tokens-print}
use Rattle.json.proofs.Printed.Trees.{value-json_tokens, ArePrintable-json_tokens}
use Rattle.serde_json.specs.Data.{Data, null, boolean, number, string, array, object, Items, no_items, item, Members, no_members, member, depth, items_depth, members_depth}
use Rattle.serde_json.specs.View.{items_of}
use Rattle.serde_json.specs.Written.{outline, items_outline, members_outline, compact_text}
use Rattle.serde_json.specs.Read.{read, of_json, of_items, max_depth}
use Rattle.serde_json.proofs.Texts.{print-outline}
use Rattle.druid_base.proofs.MemberLemmas.{Contains-later}

-- the value that was parsed, where nothing follows it
abbrev whole : Option (json.Json × List Token) → Option Data
whole o = option_and_then of_json (option_and_then (λ p. json.if_last p.0 p.1) o)

-- tokens that spell a value which reads as d
pub read_tokens : (d : Data) (text : List ℕ) → tokens text ≡ tree.json_tokens (outline d) → of_json (outline d) ≡ Some d → tree.depth (outline d) ≤ max_depth → read text ≡ Some d
read_tokens d text same reads shallow =
    ap whole (ap (json.value max_depth) (same ∙ sym (append-nil (tree.json_tokens (outline d)))) ∙ value-json_tokens (outline d) max_depth [] shallow) ∙ reads

-- the compact text has the tokens of the value
pub compact_tokens : (d : Data) → tree.HasNumbers (outline d) → tokens (compact_text d) ≡ tree.json_tokens (outline d)
compact_tokens d numbers = ap tokens (sym (print-outline d)) ∙ tokens-print (tree.json_tokens (outline d)) (ArePrintable-json_tokens (outline d) numbers)

-- the outline of a value is as deep as the value
mutual
  pub outline_deep : (d : Data) → tree.depth (outline d) ≤ depth d
  outline_deep null = omega arith
  outline_deep (boolean b) = omega arith
  outline_deep (number n) = omega arith
  outline_deep (string s) = omega arith
  outline_deep (array ds) = omega (arith, items_deep ds)
  outline_deep (object ms) = omega (arith, members_deep ms)

  items_deep : (ds : Items) → tree.items_depth (items_outline ds) ≤ items_depth ds
  items_deep no_items = omega arith
  items_deep (item d ds) = omega (arith, outline_deep d, items_deep ds)

  members_deep : (ms : Members) → tree.members_depth (members_outline ms) ≤ members_depth ms
  members_deep no_members = omega arith
  members_deep (member k d ms) = omega (arith, outline_deep d, members_deep ms)

-- no item is deeper
pub items_shallow : {A : Type 0} (f : A → Data) (n : ℕ) → ((x : A) → depth (f x) ≤ n) → (xs : List A) → items_depth (items_of (map f xs)) ≤ n
items_shallow f n one [] = omega arith
items_shallow f n one (x ∷ xs) = omega (arith, one x, items_shallow f n one xs)

-- its numbers are numbers of JSON, and it is read as itself
abbrev pub IsBack : Data → Type 0
IsBack d = tree.HasNumbers (outline d) × (of_json (outline d) ≡ Some d)

abbrev pub AreBack : Items → Type 0
AreBack ds = tree.ItemsHaveNumbers (items_outline ds) × (of_items (items_outline ds) ≡ Some ds)

pub one_more_back : (d : Data) (ds : Items) → IsBack d → AreBack ds → AreBack (item d ds)
one_more_back d ds head rest = ((head.0, rest.0), rw (head.1, rest.1) refl)

pub items_back : {A : Type 0} (f : A → Data) (P : A → Type 0) → ((x : A) → P x → IsBack (f x)) → (xs : List A) → ((x : A) → Contains xs x → P x) → AreBack (items_of (map f xs))
items_back f P one [] all = (tt, refl)
items_back f P one (x ∷ xs) all =
    one_more_back (f x) (items_of (map f xs)) (one x (all x (0, omega arith, refl))) (items_back f P one xs (λ y there. all y (Contains-later x xs y there)))

pub any_items_back : {A : Type 0} (f : A → Data) → ((x : A) → IsBack (f x)) → (xs : List A) → AreBack (items_of (map f xs))
any_items_back f one xs = items_back f (λ _. Unit {0}) (λ x _. one x) xs (λ x there. tt)

-- the compact text is read as the value
pub compact_read : (d : Data) → IsBack d → depth d ≤ max_depth → read (compact_text d) ≡ Some d
compact_read d back shallow = read_tokens d (compact_text d) (compact_tokens d back.0) back.1 (omega (arith, outline_deep d, shallow))
