-- The rows of a result, column by column.
use Rattle.std.proofs.Common.{◌≡◌, ℕ, List, [], ◌∷◌, ◌++◌, length, drop, codes, Ordering, Less, Equal, Greater, String, Global, string_bytes, string_cmp, refl, sym, ap, ◌∙◌, append_assoc}
use Rattle.std.specs.Ordering.{match_ordering}
use Rattle.std.specs.BTreeMap.{insert_entry}
use Rattle.json.specs.Token.{Token, begin_object, end_object, key, string}
use Rattle.json.specs.Tree.{members_tokens}
use Rattle.serde_json.specs.Data.{Data, object, put}
use Rattle.serde_json.specs.Written.{members_outline}
use Rattle.druid_query.specs.Query.{Dimension, Aggregator}
use Rattle.druid_partial.specs.Groups.{Group}
use Rattle.druid_partial_text.specs.Written.{with_values, with_numbers, label_data, timeseries_row, group_by_row}
use Rattle.druid_partial_text.specs.Tokens.{tokens_of}
use Rattle.druid_partial_text.specs.Named.{column_data, members_by}
use Rattle.druid_partial_text.specs.declared.results.ResultColumn.{ResultColumn}
use Rattle.druid_partial_text.proofs.TokenLemmas.{two_joined}

abbrev Entry : Type 0
Entry = String Global × ResultColumn

-- ---- a column more

chosen : (g : Group) (o : Ordering) (a b c : List Entry) → members_by g (match_ordering o a b c) ≡ match_ordering o (members_by g a) (members_by g b) (members_by g c)
chosen g Less a b c = refl
chosen g Equal a b c = refl
chosen g Greater a b c = refl

inserted : (g : Group) (es : List Entry) (k : String Global) (c : ResultColumn) → members_by g (insert_entry string_cmp es k c) ≡ put (string_bytes k) (column_data g c) (members_by g es)
inserted g [] k c = refl
inserted g (e ∷ es) k c = chosen g (string_cmp k e.0) _ _ _ ∙ rw (inserted g es k c) refl

pub column_set : (g : Group) (old new : List Entry) (name : List ℕ) (k : String Global) (c : ResultColumn) → string_bytes k ≡ name → new ≡ insert_entry string_cmp old k c
    → members_by g new ≡ put name (column_data g c) (members_by g old)
column_set g old new name k c is set = ap (members_by g) set ∙ inserted g old k c ∙ ap (λ n. put n (column_data g c) (members_by g old)) is

-- ---- by the names of dimensions, and of aggregators

abbrev pub ValuesSet : List Dimension → List Entry → List Entry → ℕ → Type 0
ValuesSet ds first now i =
    (g : Group) → length g.key.values ≡ length ds → with_values (drop i ds) (drop i g.key.values) (members_by g now) ≡ with_values ds g.key.values (members_by g first)

abbrev pub NumbersSet : List Aggregator → List Entry → List Entry → ℕ → Type 0
NumbersSet all first now i =
    (g : Group) → length g.numbers ≡ length all → with_numbers (drop i all) (drop i g.numbers) (members_by g now) ≡ with_numbers all g.numbers (members_by g first)

-- ---- as tokens

abbrev pub rest_by : Group → List Entry → List Token
rest_by g es = members_tokens (members_outline (members_by g es))

pub columns_first : (front : List Token) (g : Group) (es : List Entry) → (front ++ begin_object ∷ []) ++ rest_by g es ≡ front ++ tokens_of (object (members_by g es))
columns_first front g es = append_assoc front (begin_object ∷ []) (rest_by g es)

joined : (front : List Token) (k : Token) (d r : List Token) → ((front ++ k ∷ []) ++ d) ++ r ≡ front ++ k ∷ (d ++ r)
joined front k d r = simp append_assoc

pub column_next : (front : List Token) (g : Group) (e : Entry) (es all : List Entry) → all ≡ e ∷ es
    → ((front ++ key (string_bytes e.0) ∷ []) ++ tokens_of (column_data g e.1)) ++ rest_by g es ≡ front ++ rest_by g all
column_next front g e es all is = joined front (key (string_bytes e.0)) (tokens_of (column_data g e.1)) (rest_by g es) ∙ ap (λ (l : List Entry). front ++ rest_by g l) (sym is)

pub columns_last : (front : List Token) (g : Group) (all : List Entry) → all ≡ [] → front ++ end_object ∷ [] ≡ front ++ rest_by g all
columns_last front g all is = ap (λ (l : List Entry). front ++ rest_by g l) (sym is)

-- ---- rows

pub timeseries_written : (front : List Token) (reported : Data) (bucket : ℕ)
    → (((((front ++ begin_object ∷ []) ++ key (codes "result") ∷ []) ++ tokens_of reported) ++ key (codes "timestamp") ∷ []) ++ tokens_of (label_data bucket)) ++ end_object ∷ []
    ≡ front ++ tokens_of (timeseries_row reported bucket)
timeseries_written front reported bucket = two_joined front begin_object (key (codes "result")) (key (codes "timestamp")) end_object (tokens_of reported) (tokens_of (label_data bucket))

three_joined : (front : List Token) (b k m v w e : Token) (t l : List Token)
    → (((((((front ++ b ∷ []) ++ k ∷ []) ++ t) ++ m ∷ []) ++ l) ++ v ∷ []) ++ w ∷ []) ++ e ∷ [] ≡ front ++ b ∷ k ∷ (t ++ m ∷ (l ++ v ∷ w ∷ e ∷ []))
three_joined front b k m v w e t l = simp append_assoc

pub group_by_written : (front : List Token) (reported : Data) (bucket : ℕ)
    → (((((((front ++ begin_object ∷ []) ++ key (codes "event") ∷ []) ++ tokens_of reported) ++ key (codes "timestamp") ∷ []) ++ tokens_of (label_data bucket)) ++ key (codes "version") ∷ [])
    ++ string (codes "v1") ∷ []) ++ end_object ∷ []
    ≡ front ++ tokens_of (group_by_row reported bucket)
group_by_written front reported bucket =
    three_joined front begin_object (key (codes "event")) (key (codes "timestamp")) (key (codes "version")) (string (codes "v1")) end_object (tokens_of reported) (tokens_of (label_data bucket))

-- step by step
pub timeseries_steps : (reported : Data) (bucket : ℕ) (t0 t1 t2 t3 t4 t5 t6 : List Token) → t1 ≡ t0 ++ begin_object ∷ [] → t2 ≡ t1 ++ key (codes "result") ∷ [] → t3 ≡ t2 ++ tokens_of reported
    → t4 ≡ t3 ++ key (codes "timestamp") ∷ [] → t5 ≡ t4 ++ tokens_of (label_data bucket) → t6 ≡ t5 ++ end_object ∷ [] → t6 ≡ t0 ++ tokens_of (timeseries_row reported bucket)
timeseries_steps reported bucket t0 t1 t2 t3 t4 t5 t6 a b c d e f = rw (f, e, d, c, b, a) (timeseries_written t0 reported bucket)

pub group_by_steps : (reported : Data) (bucket : ℕ) (t0 t1 t2 t3 t4 t5 t6 t7 t8 : List Token) → t1 ≡ t0 ++ begin_object ∷ [] → t2 ≡ t1 ++ key (codes "event") ∷ [] → t3 ≡ t2 ++ tokens_of reported
    → t4 ≡ t3 ++ key (codes "timestamp") ∷ [] → t5 ≡ t4 ++ tokens_of (label_data bucket) → t6 ≡ t5 ++ key (codes "version") ∷ [] → t7 ≡ t6 ++ string (codes "v1") ∷ []
    → t8 ≡ t7 ++ end_object ∷ [] → t8 ≡ t0 ++ tokens_of (group_by_row reported bucket)
group_by_steps reported bucket t0 t1 t2 t3 t4 t5 t6 t7 t8 a b c d e f g h = rw (h, g, f, e, d, c, b, a) (group_by_written t0 reported bucket)
