-- What is written of a partial is read back.
use Rattle.std.proofs.Common.{◌≡◌, ℕ, ℤ, pos, negsuc, ◌<◌, ◌^◌, arith, List, [], ◌∷◌, map, All, Option, Some, None, IfSome, option_map, option_and_then, FitsSigned, refl, sym, ap, subst, ◌∙◌, lt-ltb}
use Rattle.std.specs.Int.{w64}
use Rattle.std.specs.List.Sorted.{IsPermutation}
use Rattle.std.proofs.lemmas.Int.{ints}
use Rattle.std.proofs.lemmas.Option.{same_Some}
use Rattle.std.proofs.lemmas.List.Elements.{All-head, All-tail}
use Rattle.std.proofs.lemmas.List.Sorted.{IsPermutation-refl, IsPermutation-sym, IsPermutation-trans, Contains-permutation}
use Rattle.serde_json.specs.Data.{Data}
use Rattle.serde_json.specs.Find.{of_integer, as_i64}
use Rattle.serde_json.specs.View.{items_of}
use Rattle.druid_time.specs.Instant.{unix_ms}
use Rattle.druid_base.specs.Options.{◌>>=◌}
use Rattle.druid_query.specs.Query.{Query}
use Rattle.druid_query.specs.Asked.{Asked, asked_at, asked_data}
use Rattle.druid_query.specs.SubQuery.{SubQuery}
use Rattle.druid_query_slice_text.proofs.BackLemmas.{asked_back}
use Rattle.druid_time.specs.Extent.{IsExtent}
use Rattle.druid_segment_id.specs.Identifier.{IsIdentifier}
use Rattle.druid_base.proofs.EachLemmas.{each_back as listed_back}
use Rattle.druid_partial_text.specs.Answers.{AreOfSource, WereAsked, ReportsAnswer, answer_data}
use Rattle.druid_base.specs.Each.{each_of}
use Rattle.druid_base.specs.Fields.{text_or_null}
use Rattle.druid_query.specs.Written.{value_data}
use Rattle.druid_query.proofs.BackLemmas.{value_back}
use Rattle.druid_partial.specs.Groups.{Group, InOrder}
use Rattle.druid_partial.specs.Partials.{IsGroupFor}
use Rattle.druid_partial_text.specs.Written.{IsHeld, number_data, group_data, partial_data}
use Rattle.druid_partial_text.specs.Read.{number_or_null, parts_at, group_of, group_at, ReportsGroups}
use Rattle.druid_partial_text.proofs.TextBackLemmas.{bucket_fits}
use Rattle.druid_partial_text.proofs.ReadLemmas.{instant_there}
use Rattle.druid_partial.proofs.GroupLemmas.{one_list}

each_back : {A : Type 0} (f : A → Data) (g : Data → Option A) (P : A → Type 0) → ((x : A) → P x → g (f x) ≡ Some x) → (xs : List A) → All P xs → each_of g (items_of (map f xs)) ≡ Some xs
each_back f g P one [] all = refl
each_back f g P one (x ∷ xs) all =
    ap (λ o. o >>= λ y. each_of g (items_of (map f xs)) >>= λ ys. Some (y ∷ ys)) (one x (All-head P x xs all))
    ∙ ap (λ o. o >>= λ ys. Some (x ∷ ys)) (each_back f g P one xs (All-tail P x xs all))

integer_back : (z : ℤ) → FitsSigned w64 z → as_i64 (of_integer z) ≡ Some z
integer_back (pos n) fits = let below : n < 2 ^ 63 = omega (arith, ints) in rw (lt-ltb n (2 ^ 63) below) refl
integer_back (negsuc n) fits = refl

number_back : (x : Option ℤ) → IfSome x (FitsSigned w64) → number_or_null (number_data x) ≡ Some x
unfolding number_or_null
number_back None fits = refl
number_back (Some z) fits = ap (option_map Some) (integer_back z fits)

parts_back : (g : Group) → IsHeld g → parts_at (group_data g) ≡ Some (record { bucket = g.key.bucket; values = items_of (map value_data g.key.values); numbers = items_of (map number_data g.numbers) })
unfolding parts_at
parts_back g held =
    let ms = integer_back (unix_ms g.key.bucket) (bucket_fits g.key.bucket held.bucket) in
    let bucket = sym (instant_there g.key.bucket (unix_ms g.key.bucket) held.bucket refl) in
    rw ms (rw bucket refl)

group_back : (g : Group) → IsHeld g → group_at (group_data g) ≡ Some g
unfolding group_of
group_back g held =
    let values = each_back value_data text_or_null (λ _. Unit {0}) (λ v _. value_back v) g.key.values (λ k d h. tt) in
    let numbers = each_back number_data number_or_null (λ x. IfSome x (FitsSigned w64)) number_back g.numbers held.words in
    ap (option_and_then group_of) (parts_back g held) ∙ rw (values, numbers) refl

pub partial_back : (q : Query) (groups : List Group) → InOrder groups → All (IsGroupFor q) groups → All IsHeld groups → ReportsGroups q (partial_data groups) groups
partial_back q groups ordered each held = record {
  rows = groups;
  listed = record { read = each_back group_data group_at IsHeld group_back groups held; each = each };
  same = IsPermutation-refl groups;
  ordered = ordered;
}

pub one_reading : (q : Query) (d : Data) (a b : List Group) → ReportsGroups q d a → ReportsGroups q d b → a ≡ b
one_reading q d a b first second =
    let rows = same_Some first.rows second.rows (sym first.listed.read ∙ second.listed.read) in
    let moved = subst (λ (rs : List Group). IsPermutation rs b) (sym rows) second.same in
    let between = IsPermutation-trans a first.rows b (IsPermutation-sym first.rows a first.same) moved in
    one_list a b first.ordered second.ordered (λ g. Contains-permutation a b g between) (λ g. Contains-permutation b a g (IsPermutation-sym a b between))

-- ---- answers of nodes

asked_back_at : (source : List ℕ) (a : Asked) → a.0.source ≡ source → IsIdentifier a.0 → IsExtent a.1 → asked_at source (asked_data a) ≡ Some a
asked_back_at source a same id piece = subst (λ (s : List ℕ). asked_at s (asked_data a) ≡ Some a) same (asked_back a id piece)

pub answer_back : (sub : SubQuery) (missing : List Asked) (groups : List Group) → WereAsked sub missing → AreOfSource sub.query.source missing → InOrder groups → All (IsGroupFor sub.query) groups
    → All IsHeld groups → ReportsAnswer sub (answer_data missing groups) missing groups
answer_back sub missing groups asked of ordered each held = record {
  missed = listed_back asked_data (asked_at sub.query.source) missing (λ a c. let o = of a c in asked_back_at sub.query.source a o.0 o.1 o.2);
  were_asked = asked;
  rows = partial_data groups;
  found = refl;
  reported = partial_back sub.query groups ordered each held;
}
