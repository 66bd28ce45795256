-- What tokens spell, put together.
use Rattle.std.proofs.Common.{zero, suc, ◌<◌, length, map, get_or, slice_get, slice_index_or, IsSome, IfSome, String, Global, string_bytes, ◌≡◌, ◌≤◌, ◌∙◌, ℕ, ℤ, List, [], ◌∷◌, ◌++◌, All, IsUtf8, codes, Option, Some, None, option_map, option_and_then, refl, sym, ap, subst, arith, Ok, append_assoc, append-nil}
use Rattle.std.specs.List.Sorted.{IsPermutation}
use Rattle.json.specs.Token.{Token}
use Rattle.json.specs.Lex.{tokens}
use Rattle.json.specs.Json as json
use Rattle.json.specs.Tree.{json_tokens, items_tokens, depth}
use Rattle.json.proofs.Printed.Trees.{value-json_tokens}
use Rattle.serde_json.specs.Data.{Data, null, number, string, array, object, Items, no_items, item, no_members, member}
use Rattle.serde_json.specs.Find.{as_i64}
use Rattle.serde_json.specs.Read.{read, max_depth, number_of, of_json, of_items}
use Rattle.druid_filter.specs.Values.{nullable_texts_of}
use Rattle.druid_base.specs.Fields.{text_or_null}
use Rattle.druid_base.proofs.MemberLemmas.{Contains-nil}
use Rattle.druid_base.proofs.OptionLemmas.{chained}
use Rattle.druid_query.specs.SubQuery.{SubQuery}
use Rattle.druid_query.specs.declared.aggregator.Aggregator.{Aggregator}
use Rattle.druid_query.specs.declared.aggregator.AggregatorKind.{AggregatorKind}
use Rattle.druid_query.specs.declared.aggregator.AggregatorKind.TheVariants.{Count}
use Rattle.std.proofs.lemmas.Option.{same_Some}
use Rattle.druid_partial_text.specs.Borrowed.{AreNumbersFor}
use Rattle.druid_partial.specs.Groups.{Group, InOrder}
use Rattle.druid_partial.specs.Partials.{kinds_of, IsGroupFor}
use Rattle.druid_partial_text.specs.Answers.{IsAnswerOf}
use Rattle.druid_partial_text.specs.Read.{instant_of, integer_at, number_or_null, parts_at, group_of, group_at}
use Rattle.druid_partial_text.proofs.MadeLemmas.{map-append}
use Rattle.druid_partial_text.specs.Spelt.{Spells, SpellsRest, SpellsItems, SpellsAnswer}

-- ---- one token

pub spells_text : (old new : List Token) (s : List ℕ) → old ≡ Token.string s ∷ new → Spells text_or_null 0 old new (Some s)
unfolding text_or_null
spells_text old new s is = record { value = json.string s; content = string s; tokens = is; is = refl; read = refl; shallow = omega arith }

pub spells_no_text : (old new : List Token) → old ≡ Token.null ∷ new → Spells text_or_null 0 old new None
unfolding text_or_null
spells_no_text old new is = record { value = json.null; content = null; tokens = is; is = refl; read = refl; shallow = omega arith }

pub spells_number : (old new : List Token) (s : List ℕ) (n : ℤ) → old ≡ Token.number s ∷ new → option_and_then as_i64 (number_of s) ≡ Some n → Spells number_or_null 0 old new (Some n)
unfolding number_or_null
spells_number old new s n is reads =
    let found = chained as_i64 (number_of s) n reads in
    record { value = json.number s; content = number found.0; tokens = is; is = ap (option_map number) found.1; read = ap (option_map Some) found.2; shallow = omega arith }

pub spells_no_number : (old new : List Token) → old ≡ Token.null ∷ new → Spells number_or_null 0 old new None
unfolding number_or_null
spells_no_number old new is = record { value = json.null; content = null; tokens = is; is = refl; read = refl; shallow = omega arith }

pub spells_bucket : (old new : List Token) (s : List ℕ) (n : ℤ) (bucket : ℕ) → old ≡ Token.number s ∷ new → option_and_then as_i64 (number_of s) ≡ Some n → instant_of n ≡ Some bucket
    → Spells (λ d. option_and_then instant_of (integer_at d)) 0 old new bucket
spells_bucket old new s n bucket is reads instant =
    let found = chained as_i64 (number_of s) n reads in
    record { value = json.number s; content = number found.0; tokens = is; is = ap (option_map number) found.1; read = ap (option_and_then instant_of) found.2 ∙ instant; shallow = omega arith }

-- ---- lists

item_tokens : (j : json.Json) (js : json.Items) (a b new : List Token) → a ≡ json_tokens j ++ b → b ≡ items_tokens js ++ new → a ≡ items_tokens (json.item j js) ++ new
item_tokens j js a b new first rest = first ∙ ap (λ l. json_tokens j ++ l) rest ∙ sym (append_assoc (json_tokens j) (items_tokens js) new)

module _ {A : Type 0} (f : Data → Option A) (deep : ℕ) where
  first_of_rest : (a b new : List Token) (x : A) (ys : List A) → Spells f deep a b x → SpellsRest f deep b new ys → SpellsRest f deep a new (x ∷ ys)
  first_of_rest a b new x ys one rest = record {
    values = json.item one.value rest.values;
    content = item one.content rest.content;
    tokens = item_tokens one.value rest.values a b new one.tokens rest.tokens;
    is = rw (one.is, rest.is) refl;
    read = rw (one.read, rest.read) refl;
    shallow = omega (arith, one.shallow, rest.shallow);
  }

  pub items_none : (old : List Token) → SpellsItems f deep old old []
  items_none old = record { before = λ ys new rest. rest }

  pub items_more : (old a b : List Token) (xs : List A) (x : A) → SpellsItems f deep old a xs → Spells f deep a b x → SpellsItems f deep old b (xs ++ x ∷ [])
  items_more old a b xs x so_far one = record {
    before = λ ys new rest.
        subst (SpellsRest f deep old new) (sym (append_assoc xs (x ∷ []) ys)) (so_far.before (x ∷ ys) new (first_of_rest a b new x ys one rest));
  }

  pub items_end : (old a new : List Token) (xs : List A) → SpellsItems f deep old a xs → a ≡ Token.end_array ∷ new → SpellsRest f deep old new xs
  items_end old a new xs so_far is =
      subst (SpellsRest f deep old new) (append-nil xs)
      (so_far.before [] new (record { values = json.no_items; content = no_items; tokens = is; is = refl; read = refl; shallow = omega arith }))

-- texts of strings
pub texts_more : (old a b : List Token) (xs : List (Option (String Global))) (x : Option (String Global)) → SpellsItems text_or_null 0 old a (nullable_texts_of xs) → Spells text_or_null 0 a b (option_map string_bytes x)
    → SpellsItems text_or_null 0 old b (nullable_texts_of (xs ++ x ∷ []))
texts_more old a b xs x so_far one =
    subst (SpellsItems text_or_null 0 old b) (sym (map-append (option_map string_bytes) xs x)) (items_more text_or_null 0 old a b (nullable_texts_of xs) (option_map string_bytes x) so_far one)

-- ---- a row

pub spells_row : (old a b c d e new : List Token) (bucket : ℕ) (values : List (Option (List ℕ))) (numbers : List (Option ℤ))
    → Spells (λ d. option_and_then instant_of (integer_at d)) 0 old a bucket → a ≡ Token.begin_array ∷ b → SpellsRest text_or_null 0 b c values → c ≡ Token.begin_array ∷ d
    → SpellsRest number_or_null 0 d e numbers → e ≡ Token.end_array ∷ new
    → Spells group_at 2 (Token.begin_array ∷ old) new (record { key = record { bucket = bucket; values = values }; numbers = numbers })
unfolding parts_at group_of
spells_row old a b c d e new bucket values numbers label opens_values texts opens_numbers words ends =
    let ms = chained instant_of (integer_at label.content) bucket label.read in
    let last : json.Items = json.item (json.array words.values) json.no_items in
    let both : json.Items = json.item (json.array texts.values) last in
    let third = item_tokens (json.array words.values) json.no_items c e new (opens_numbers ∙ ap (λ l. Token.begin_array ∷ l) words.tokens) ends in
    let second = item_tokens (json.array texts.values) last a c new (opens_values ∙ ap (λ l. Token.begin_array ∷ l) texts.tokens) third in
    let first = item_tokens label.value both old a new label.tokens second in
    record {
      value = json.array (json.item label.value both);
      content = array (item label.content (item (array texts.content) (item (array words.content) no_items)));
      tokens = ap (λ l. Token.begin_array ∷ l) first;
      is = rw (label.is, texts.is, words.is) refl;
      read = rw (ms.1, ms.2, texts.read, words.read) refl;
      shallow = omega (arith, label.shallow, texts.shallow, words.shallow);
    }

-- ---- an answer

answer_json : json.Items → json.Json
answer_json rows =
    json.object (json.member (codes "missing") (json.array json.no_items) (json.member (codes "rows") (json.array rows) json.no_members))

answer_content : Items → Data
answer_content rows = object (member (codes "missing") (array no_items) (member (codes "rows") (array rows) no_members))

reads_whole : (j : json.Json) (d : Data) (bytes : List ℕ) → tokens bytes ≡ json_tokens j → of_json j ≡ Some d → depth j ≤ max_depth → read bytes ≡ Some d
reads_whole j d bytes spelt is shallow =
    ap (λ (o : Option (json.Json × List Token)). option_and_then of_json (option_and_then (λ p. json.if_last p.0 p.1) o))
    (ap (json.value max_depth) (spelt ∙ sym (append-nil (json_tokens j))) ∙ value-json_tokens j max_depth [] shallow) ∙ is

answer_reads : (values : json.Items) (content : Items) → of_items values ≡ Some content → of_json (answer_json values) ≡ Some (answer_content content)
unfolding answer_json answer_content
answer_reads values content is = rw is refl

pub answer_is : (sub : SubQuery) (bytes : List ℕ) (kinds : List AggregatorKind) (groups made : List Group) → IsUtf8 bytes → SpellsAnswer (tokens bytes) groups → All (IsGroupFor sub.query) groups
    → IsPermutation groups made → InOrder made → kinds ≡ kinds_of sub.query
    → IsAnswerOf sub bytes (Ok (record { partial = record { kinds = kinds; groups = made }; missing = [] }))
unfolding answer_json answer_content
answer_is sub bytes kinds groups made utf8 spelt each moved ordered is =
    let rest = spelt.2 in
    let front : List Token → List Token = λ rows. Token.begin_object ∷ Token.key (codes "missing") ∷ Token.begin_array ∷ Token.end_array ∷ Token.key (codes "rows") ∷ Token.begin_array ∷ rows in
    let whole : tokens bytes ≡ json_tokens (answer_json rest.values) = spelt.1 ∙ ap front rest.tokens in (
      answer_content rest.content,
      (utf8, reads_whole (answer_json rest.values) (answer_content rest.content) bytes whole (answer_reads rest.values rest.content rest.is) (omega (arith, rest.shallow))),
      (
        is,
        record {
          missed = refl;
          were_asked = λ a there. absurd (Contains-nil a there);
          rows = array rest.content;
          found = refl;
          reported = record { rows = groups; listed = record { read = rest.read; each = each }; same = moved; ordered = ordered };
        },
      ),
    )

-- ---- what aggregators may tell

-- the first n numbers may be what their aggregators tell
abbrev pub AreCounted : List Aggregator → List (Option ℤ) → ℕ → Type 0
AreCounted all numbers n = (k : ℕ) (a : Aggregator) (x : Option ℤ) → k < n → a ≡ get_or all k a → x ≡ get_or numbers k x → a.kind ≡ Count → IsSome x

pub are_numbers : (all : List Aggregator) (numbers : List (Option ℤ)) → length numbers ≡ length all → AreCounted all numbers (length numbers) → AreNumbersFor (map (λ a. a.kind) all) numbers
are_numbers [] [] same each = record { one_each = refl; counted = λ place e. absurd (cc) }
are_numbers [] (x ∷ numbers) same each = absurd (omega arith)
are_numbers (a ∷ all) [] same each = absurd (omega arith)
are_numbers (a ∷ all) (x ∷ numbers) same each =
    let rest = are_numbers all numbers (omega (arith, same)) (λ k b y below at_b at_y. each (suc k) b y (omega (arith, below)) at_b at_y) in
    record { one_each = ap suc rest.one_each; counted = counted_from rest }
  where
    counted_from : AreNumbersFor (map (λ b. b.kind) all) numbers → (place : ℕ) → slice_get (map (λ b. b.kind) (a ∷ all)) place ≡ Some Count → IsSome (slice_index_or (x ∷ numbers) place None)
    counted_from rest zero is = each zero a x (omega arith) refl refl (same_Some a.kind Count is)
    counted_from rest (suc place) is = rest.counted place is
