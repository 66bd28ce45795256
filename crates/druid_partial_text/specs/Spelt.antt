-- What the tokens of a text spell, one after another: only proofs use this.
use Rattle.std.specs.Prelude.{◌≡◌, ◌≤◌, ℕ, List, [], ◌∷◌, ◌++◌, codes, Option, Some}
use Rattle.json.specs.Token.{Token, begin_object, end_object, begin_array, end_array, key}
use Rattle.json.specs.Json as json
use Rattle.json.specs.Tree.{json_tokens, items_tokens, depth, items_depth}
use Rattle.serde_json.specs.Data.{Data, Items}
use Rattle.serde_json.specs.Read.{of_json, of_items}
use Rattle.druid_base.specs.Each.{each_of}
use Rattle.druid_partial.specs.Groups.{Group}
use Rattle.druid_partial_text.specs.Read.{group_at}

-- the tokens from old to new are those of a value that reads as x
pub record Spells {A : Type 0} (f : Data → Option A) (deep : ℕ) (old new : List Token) (x : A) : Type 0 where
  pub value : json.Json
  pub content : Data
  pub tokens : old ≡ json_tokens value ++ new
  pub is : of_json value ≡ Some content
  pub read : f content ≡ Some x
  pub shallow : depth value ≤ deep

-- the tokens from old to new are those of the items left of a list, and of its end; the items read as xs
pub record SpellsRest {A : Type 0} (f : Data → Option A) (deep : ℕ) (old new : List Token) (xs : List A) : Type 0 where
  pub values : json.Items
  pub content : Items
  pub tokens : old ≡ items_tokens values ++ new
  pub is : of_items values ≡ Some content
  pub read : each_of f content ≡ Some xs
  pub shallow : items_depth values ≤ deep

-- the items from old to now read as xs: what is the rest of a list after them is so with them, too
pub record SpellsItems {A : Type 0} (f : Data → Option A) (deep : ℕ) (old now : List Token) (xs : List A) : Type 0 where
  pub before : (ys : List A) (new : List Token) → SpellsRest f deep now new ys → SpellsRest f deep old new (xs ++ ys)

-- the tokens are those of an answer that misses nothing, whose rows read as these groups
abbrev pub SpellsAnswer : List Token → List Group → Type 0
SpellsAnswer all groups =
    (rows : List Token)
    × (all ≡ begin_object ∷ key (codes "missing") ∷ begin_array ∷ end_array ∷ key (codes "rows") ∷ begin_array ∷ rows)
    × SpellsRest group_at 2 rows (end_object ∷ []) groups
