-- The text of a result, row by row.
use Rattle.std.proofs.Common.{◌≡◌, ℕ, ◌+◌, ◌<◌, ◌≤◌, List, [], ◌∷◌, ◌++◌, length, get_or, drop, map, All, String, Global, refl, ap, ◌∙◌, drop_of_length-le}
use Rattle.std.proofs.lemmas.List.{drop_more}
use Rattle.std.proofs.lemmas.List.Elements.{All-head, All-tail}
use Rattle.json.specs.Token.{Token, begin_array, end_array}
use Rattle.json.specs.Print.{print}
use Rattle.serde_json.specs.Data.{Items, array, object, item}
use Rattle.serde_json.specs.View.{items_of}
use Rattle.serde_json.specs.Written.{compact_text}
use Rattle.serde_json.proofs.Texts.{print-outline}
use Rattle.druid_query.specs.Query.{Query}
use Rattle.druid_query.specs.Asked.{Asked}
use Rattle.druid_query.specs.declared.query_type.QueryType.{QueryType}
use Rattle.druid_partial.specs.Groups.{Group}
use Rattle.druid_partial.specs.Partials.{IsGroupFor}
use Rattle.druid_partial_text.specs.Written.{kinded_row, row_data, result_text}
use Rattle.druid_partial_text.specs.Answers.{shortfall_of, shortfall_text}
use Rattle.druid_partial_text.specs.Tokens.{tokens_of, rest_of}
use Rattle.druid_partial_text.specs.Named.{ReportsBy, row_by, rows_by}
use Rattle.druid_partial_text.specs.declared.results.ResultColumn.{ResultColumn}
use Rattle.druid_partial_text.proofs.TokenLemmas.{begun, more, ended}

abbrev pub row_items : QueryType → List (String Global × ResultColumn) → List Group → Items
row_items kind es groups = items_of (map (row_by kind es) groups)

pub rows_first : (front : List Token) (kind : QueryType) (es : List (String Global × ResultColumn)) (groups : List Group)
    → (front ++ begin_array ∷ []) ++ rest_of (row_items kind es groups) ≡ front ++ tokens_of (rows_by kind es groups)
rows_first front kind es groups = begun front (row_items kind es groups)

pub row_next : (front : List Token) (kind : QueryType) (es : List (String Global × ResultColumn)) (groups : List Group) (i : ℕ) (g : Group) → i < length groups → g ≡ get_or groups i g
    → (front ++ tokens_of (row_by kind es g)) ++ rest_of (row_items kind es (drop (i + 1) groups)) ≡ front ++ rest_of (row_items kind es (drop i groups))
row_next front kind es groups i g h is =
    more front (tokens_of (row_by kind es g)) (row_by kind es (get_or groups i g)) (row_items kind es (drop (i + 1) groups)) (row_items kind es (drop i groups))
    (ap (row_items kind es) (drop_more groups i g h)) (ap (λ y. tokens_of (row_by kind es y)) is)

pub rows_last : (front : List Token) (kind : QueryType) (es : List (String Global × ResultColumn)) (groups : List Group) (i : ℕ) → length groups ≤ i
    → front ++ end_array ∷ [] ≡ front ++ rest_of (row_items kind es (drop i groups))
rows_last front kind es groups i h = ended front (row_items kind es (drop i groups)) (ap (row_items kind es) (drop_of_length-le groups h))

-- each group is written by name
row_reported : (q : Query) (es : List (String Global × ResultColumn)) (g : Group) → ReportsBy q es → IsGroupFor q g → row_by q.kind es g ≡ row_data q g
row_reported q es g reports for = ap (λ ms. kinded_row q.kind (object ms) g.key.bucket) (reports g for.values for.numbers)

rows_reported : (q : Query) (es : List (String Global × ResultColumn)) (groups : List Group) → ReportsBy q es → All (IsGroupFor q) groups
    → items_of (map (row_by q.kind es) groups) ≡ items_of (map (row_data q) groups)
rows_reported q es [] reports each = refl
rows_reported q es (g ∷ groups) reports each =
    ap (λ d. item d (items_of (map (row_by q.kind es) groups))) (row_reported q es g reports (All-head (IsGroupFor q) g groups each))
    ∙ ap (item (row_data q g)) (rows_reported q es groups reports (All-tail (IsGroupFor q) g groups each))

pub result_printed : (q : Query) (es : List (String Global × ResultColumn)) (groups : List Group) → ReportsBy q es → All (IsGroupFor q) groups
    → print (tokens_of (rows_by q.kind es groups)) ≡ result_text q groups
result_printed q es groups reports each =
    print-outline (rows_by q.kind es groups) ∙ ap (λ ds. compact_text (array ds)) (rows_reported q es groups reports each)

pub shortfall_printed : (q : Query) (missing : List Asked) (es : List (String Global × ResultColumn)) (groups : List Group) → ReportsBy q es → All (IsGroupFor q) groups
    → print (tokens_of (shortfall_of missing (rows_by q.kind es groups))) ≡ shortfall_text q missing groups
shortfall_printed q missing es groups reports each =
    print-outline (shortfall_of missing (rows_by q.kind es groups)) ∙ ap (λ ds. compact_text (shortfall_of missing (array ds))) (rows_reported q es groups reports each)
