-- Numbers joined place by place.
use Rattle.std.proofs.Common.{◌≡◌, ◌∙◌, ℕ, zero, suc, ◌+◌, ◌<◌, ℤ, ◌+ℤ◌, Bool, true, false, cond, List, [], ◌∷◌, ◌++◌, reverse, length, get_or, take, drop, set, min, Option, Some, None, refl, sym, ap, subst, arith, add-one}
use Rattle.std.specs.Prelude.{IfSome, FitsSigned, All, int_lt, IsSome}
use Rattle.druid_query.specs.declared.aggregator.AggregatorKind.{AggregatorKind}
use Rattle.std.specs.Int.{w64}
use Rattle.std.proofs.lemmas.Int.{SFits-int_wrap}
use Rattle.std.proofs.lemmas.List.Elements.{All-contains, All-nil, All-cons, All-head, All-tail}
use Rattle.druid_query.specs.declared.aggregator.AggregatorKind.TheVariants.{Count, LongSum, LongMin, LongMax}
use Rattle.druid_query.specs.Query.{Query, Aggregator}
use Rattle.druid_partial.specs.Partials.{Partial, IsPartial, HasNumbers, kinds_of, IsGroupFor, IsPartialFor}
use Rattle.druid_partial.proofs.MergedLemmas.{IsWord, joined_at, joined_length, merged_is_merge}
use Rattle.std.specs.Ordering.{match_ordering}
use Rattle.std.specs.declared.cmp.Ordering.{Ordering}
use Rattle.std.specs.declared.cmp.Ordering.TheVariants.{Less, Equal, Greater}
use Rattle.std.proofs.lemmas.List.{reverse-reverse, append-nil, length-map, take-append-le}
use Rattle.std.proofs.Math.Seq.{take-length}
use Rattle.druid_partial.specs.Groups.{Group, AreWords, InOrder, IsMerge, key_cmp}
use Rattle.druid_partial.specs.Joined.{joined, join_numbers, join_groups, put, merged}

joined_suc : (kinds : List AggregatorKind) (xs ys : List (Option ℤ)) (i : ℕ) (k : AggregatorKind) (x y : Option ℤ) → i < length kinds → i < length xs → i < length ys → join_numbers (take (suc i) kinds) xs ys ≡ set (join_numbers (take i kinds) xs ys) i (joined (get_or kinds i k) (get_or (join_numbers (take i kinds) xs ys) i x) (get_or ys i y))
joined_suc [] xs ys i k x y p q r = absurd (omega arith)
joined_suc (c ∷ cs) [] ys i k x y p q r = absurd (omega arith)
joined_suc (c ∷ cs) (a ∷ xs) [] i k x y p q r = absurd (omega arith)
joined_suc (c ∷ cs) (a ∷ xs) (b ∷ ys) zero k x y p q r = refl
joined_suc (c ∷ cs) (a ∷ xs) (b ∷ ys) (suc i) k x y p q r =
    ap (λ l. joined c a b ∷ l) (joined_suc cs xs ys i k x y (omega arith) (omega arith) (omega arith))

pub joined_more : (kinds : List AggregatorKind) (xs ys : List (Option ℤ)) (i : ℕ) (k : AggregatorKind) (x y : Option ℤ) → i < length kinds → i < length xs → i < length ys → join_numbers (take (i + 1) kinds) xs ys ≡ set (join_numbers (take i kinds) xs ys) i (joined (get_or kinds i k) (get_or (join_numbers (take i kinds) xs ys) i x) (get_or ys i y))
joined_more kinds xs ys i k x y p q r = rw add-one (joined_suc kinds xs ys i k x y p q r)

pub joined_none : (kinds : List AggregatorKind) (xs ys : List (Option ℤ)) → join_numbers (take 0 kinds) xs ys ≡ xs
joined_none kinds xs ys = refl

pub joined_all : (kinds : List AggregatorKind) (xs ys : List (Option ℤ)) (n : ℕ) → n ≡ min (min (length kinds) (length xs)) (length ys) → join_numbers (take n kinds) xs ys ≡ join_numbers kinds xs ys
joined_all [] xs ys n e = let z : n ≡ 0 = omega arith in rw z refl
joined_all (c ∷ cs) [] ys n e = let z : n ≡ 0 = omega arith in rw z refl
joined_all (c ∷ cs) (a ∷ xs) [] n e = let z : n ≡ 0 = omega arith in rw z refl
joined_all (c ∷ cs) (a ∷ xs) (b ∷ ys) zero e = absurd (omega arith)
joined_all (c ∷ cs) (a ∷ xs) (b ∷ ys) (suc n) e = ap (λ l. joined c a b ∷ l) (joined_all cs xs ys n (omega arith))

pub ruleset join_steps = (joined_more, joined_none, joined_all)

-- ---- the walk over two lists, from their ends

no_items : (xs : List Group) → length xs ≡ 0 → xs ≡ []
no_items [] e = refl
no_items (x ∷ xs) e = absurd (omega arith)

-- ---- words

join_word : (kind : AggregatorKind) (x y : Option ℤ) → IfSome x (FitsSigned w64) → IfSome y (FitsSigned w64) → IfSome (joined kind x y) (FitsSigned w64)
join_word kind None y p q = q
join_word kind (Some x) None p q = p
join_word Count (Some x) (Some y) p q = SFits-int_wrap w64 (x +ℤ y)
join_word LongSum (Some x) (Some y) p q = SFits-int_wrap w64 (x +ℤ y)
join_word LongMin (Some x) (Some y) p q = by_cond (int_lt y x) y x q p
  where
    by_cond : (b : Bool) (a c : ℤ) → FitsSigned w64 a → FitsSigned w64 c → FitsSigned w64 (cond b a c)
    by_cond true a c f g = f
    by_cond false a c f g = g
join_word LongMax (Some x) (Some y) p q = by_cond (int_lt y x) x y p q
  where
    by_cond : (b : Bool) (a c : ℤ) → FitsSigned w64 a → FitsSigned w64 c → FitsSigned w64 (cond b a c)
    by_cond true a c f g = f
    by_cond false a c f g = g

pub joined_words : (kinds : List AggregatorKind) (xs ys : List (Option ℤ)) → AreWords xs → AreWords ys → AreWords (join_numbers kinds xs ys)
joined_words [] xs ys p q = p
joined_words (c ∷ cs) [] ys p q = All-nil IsWord
joined_words (c ∷ cs) (a ∷ xs) [] p q = p
joined_words (c ∷ cs) (a ∷ xs) (b ∷ ys) p q =
    All-cons IsWord (joined c a b) (join_numbers cs xs ys) (join_word c a b (All-head IsWord a xs p) (All-head IsWord b ys q))
    (joined_words cs xs ys (All-tail IsWord a xs p) (All-tail IsWord b ys q))

-- what is written through a slice
pub written_is : (n : ℕ) (new old : List (Option ℤ)) → n ≡ length new → take n (new ++ drop (length new) old) ≡ new
written_is n new old e = rw e (take-append-le (length new) new _ (omega arith) ∙ take-length new)

pub written_words : (n : ℕ) (new old : List (Option ℤ)) → n ≡ length new → AreWords new → AreWords (take n (new ++ drop (length new) old))
written_words n new old e w =
    let same : take n (new ++ drop (length new) old) ≡ new = written_is n new old e in
    let P : List (Option ℤ) → Type 0 = AreWords in subst P (sym same) w

-- ---- what holds of each group of a merge

put_each : (kinds : List AggregatorKind) (P : Group → Type 0) → ((g h : Group) → P g → P h → P (join_groups kinds g h)) → (x : Group) (xs : List Group) → P x → ((ys : List Group) → All P ys → All P (merged kinds xs ys)) → (ys : List Group) → All P ys → All P (put kinds x (merged kinds xs) ys)
put_each kinds P both x xs p rest [] q = All-cons P x _ p (rest [] q)
put_each kinds P both x xs p rest (y ∷ ys) q =
    by_order (put_each kinds P both x xs p rest ys (All-tail P y ys q)) (key_cmp x.key y.key)
  where
    by_order : All P (put kinds x (merged kinds xs) ys) → (o : Ordering) → All P (match_ordering o (x ∷ merged kinds xs (y ∷ ys)) (join_groups kinds x y ∷ merged kinds xs ys) (y ∷ put kinds x (merged kinds xs) ys))
    by_order later Less = All-cons P x _ p (rest (y ∷ ys) q)
    by_order later Equal = All-cons P (join_groups kinds x y) _ (both x y p (All-head P y ys q)) (rest ys (All-tail P y ys q))
    by_order later Greater = All-cons P y _ (All-head P y ys q) later

pub merged_each : (kinds : List AggregatorKind) (P : Group → Type 0) → ((g h : Group) → P g → P h → P (join_groups kinds g h)) → (xs ys : List Group) → All P xs → All P ys → All P (merged kinds xs ys)
merged_each kinds P both [] ys p q = q
merged_each kinds P both (x ∷ xs) ys p q =
    put_each kinds P both x xs (All-head P x xs p) (λ zs. merged_each kinds P both xs zs (All-tail P x xs p)) ys q

pub has_joined : (kinds : List AggregatorKind) (g h : Group) → HasNumbers kinds g → HasNumbers kinds h → HasNumbers kinds (join_groups kinds g h)
has_joined kinds g h p q = record {
  one_each = joined_length kinds g.numbers h.numbers p.one_each q.one_each;
  words = joined_words kinds g.numbers h.numbers p.words q.words;
}

-- a merge of two partials is a partial
pub merged_partial : (kinds : List AggregatorKind) (a b : Partial) → a.kinds ≡ kinds → b.kinds ≡ kinds → IsPartial a → IsPartial b → IsPartial (record { kinds = kinds; groups = merged kinds a.groups b.groups })
merged_partial kinds a b e f p q =
    let P : List AggregatorKind → Type 0 = λ k. All (HasNumbers k) a.groups in
    let Q : List AggregatorKind → Type 0 = λ k. All (HasNumbers k) b.groups in
    let mine : All (HasNumbers kinds) a.groups = subst P e p.numbers in
    let theirs : All (HasNumbers kinds) b.groups = subst Q f q.numbers in
    record {
      ordered = (merge_is kinds a b p.ordered q.ordered mine theirs).ordered;
      numbers = merged_each kinds (HasNumbers kinds) (has_joined kinds) a.groups b.groups mine theirs;
    }
  where
    merge_is : (kinds : List AggregatorKind) (a b : Partial) → InOrder a.groups → InOrder b.groups → All (HasNumbers kinds) a.groups → All (HasNumbers kinds) b.groups → IsMerge kinds a.groups b.groups (merged kinds a.groups b.groups)
    merge_is kinds a b s t mine theirs =
        merged_is_merge kinds a.groups b.groups s (λ g c. All-contains (HasNumbers kinds) a.groups g mine c) t (λ g c. All-contains (HasNumbers kinds) b.groups g theirs c)

pub merged_merge : (kinds : List AggregatorKind) (a b : Partial) → a.kinds ≡ kinds → b.kinds ≡ kinds → IsPartial a → IsPartial b → IsMerge kinds a.groups b.groups (merged kinds a.groups b.groups)
merged_merge kinds a b e f p q =
    let P : List AggregatorKind → Type 0 = λ k. All (HasNumbers k) a.groups in
    let Q : List AggregatorKind → Type 0 = λ k. All (HasNumbers k) b.groups in
    merged_is_merge kinds a.groups b.groups p.ordered (λ g c. All-contains (HasNumbers kinds) a.groups g (subst P e p.numbers) c) q.ordered (λ g c. All-contains (HasNumbers kinds) b.groups g (subst Q f q.numbers) c)

pub kinds_length : (query : Query) → length (kinds_of query) ≡ length query.aggregations
kinds_length query = length-map query.aggregations (λ (a : Aggregator). a.kind)

some_joined : (kind : AggregatorKind) (x y : Option ℤ) → IsSome x → IsSome (joined kind x y)
some_joined kind None y p = absurd (cc)
some_joined kind (Some x) None p = refl
some_joined kind (Some x) (Some y) p = refl

pub group_for : (query : Query) (g h : Group) → IsGroupFor query g → IsGroupFor query h → IsGroupFor query (join_groups (kinds_of query) g h)
group_for query g h p q = record {
  bucket = p.bucket;
  values = p.values;
  numbers = joined_length (kinds_of query) g.numbers h.numbers (p.numbers ∙ sym (kinds_length query)) (q.numbers ∙ sym (kinds_length query)) ∙ kinds_length query;
  counted = λ place k.
      let P : Option ℤ → Type 0 = λ n. IsSome n in
      subst P (sym (joined_at (kinds_of query) g.numbers h.numbers (p.numbers ∙ sym (kinds_length query)) (q.numbers ∙ sym (kinds_length query)) place Count k))
      (some_joined Count _ _ (p.counted place k));
}

-- and for each query that both are for
pub merged_for : (query : Query) (kinds : List AggregatorKind) (a b : Partial) → a.kinds ≡ kinds → IsPartialFor query a → IsPartialFor query b → IsPartialFor query (record { kinds = kinds; groups = merged kinds a.groups b.groups })
merged_for query kinds a b e p q =
    let same : kinds ≡ kinds_of query = sym e ∙ p.kinds in
    record {
      kinds = same;
      each = let P : List AggregatorKind → Type 0 = λ k. All (IsGroupFor query) (merged k a.groups b.groups) in
          subst P (sym same) (merged_each (kinds_of query) (IsGroupFor query) (group_for query) a.groups b.groups p.each q.each);
    }

-- what the walk has made at its end
pub walked : (kinds seen : List AggregatorKind) (out more_mine more_theirs mine theirs first second left right : List Group) → out ++ merged kinds (reverse more_mine) (reverse more_theirs) ≡ merged kinds (reverse mine) (reverse theirs) → merged seen (reverse more_mine) (reverse more_theirs) ≡ [] → seen ≡ kinds → mine ≡ reverse first → first ≡ left → theirs ≡ reverse second → second ≡ right → out ≡ merged kinds left right
walked kinds seen out more_mine more_theirs mine theirs first second left right e none s m l t r =
    sym (append-nil out) ∙ ap (λ rest. out ++ rest) (sym none ∙ ap (λ k. merged k (reverse more_mine) (reverse more_theirs)) s) ∙ e
    ∙ ap (λ xs. merged kinds (reverse xs) (reverse theirs)) m
    ∙ ap (λ ys. merged kinds (reverse (reverse first)) (reverse ys)) t
    ∙ ap (λ xs. merged kinds xs (reverse (reverse second))) (reverse-reverse first ∙ l)
    ∙ ap (merged kinds left) (reverse-reverse second ∙ r)
