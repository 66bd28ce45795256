-- Lists written item by item, as tokens.
use Rattle.std.proofs.Common.{◌≡◌, List, [], ◌∷◌, ◌++◌, sym, ap, ◌∙◌, append_assoc}
use Rattle.json.specs.Token.{Token, begin_array, end_array}
use Rattle.serde_json.specs.Data.{Data, Items, no_items, item}
use Rattle.druid_segment_text.specs.Tokens.{tokens_of, rest_of}

-- the opening bracket is written
pub begun : (front : List Token) (ds : Items) → (front ++ begin_array ∷ []) ++ rest_of ds ≡ front ++ begin_array ∷ rest_of ds
begun front ds = append_assoc front (begin_array ∷ []) (rest_of ds)

-- the next item is written
pub more : (front done : List Token) (d : Data) (ds all : Items) → all ≡ item d ds → done ≡ tokens_of d → (front ++ done) ++ rest_of ds ≡ front ++ rest_of all
more front done d ds all is written =
    append_assoc front done (rest_of ds) ∙ ap (λ ts. front ++ (ts ++ rest_of ds)) written ∙ ap (λ items. front ++ rest_of items) (sym is)

-- none is left
pub ended : (front : List Token) (all : Items) → all ≡ no_items → front ++ end_array ∷ [] ≡ front ++ rest_of all
ended front all is = ap (λ items. front ++ rest_of items) (sym is)
