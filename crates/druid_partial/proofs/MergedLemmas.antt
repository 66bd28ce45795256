-- Two lists of groups in order are merged by one walk over both.
use Rattle.std.proofs.Common.{◌≡◌, ◌∙◌, ℕ, zero, suc, ℤ, List, [], ◌∷◌, ◌++◌, length, Option, Some, None, refl, sym, ap, subst, ⊎_elim, arith, append_assoc}
use Rattle.std.specs.Prelude.{Contains, slice_get, slice_index_or, IfSome, FitsSigned}
use Rattle.std.specs.Int.{w64}
use Rattle.std.specs.Ordering.{ordering_reverse, match_ordering}
use Rattle.std.specs.declared.cmp.Ordering.{Ordering}
use Rattle.std.specs.declared.cmp.Ordering.TheVariants.{Less, Equal, Greater}
use Rattle.std.proofs.lemmas.Int.{int_wrap_fits}
use Rattle.std.proofs.lemmas.List.Elements.{All-head, All-tail, Contains-append_cases}
use Rattle.druid_base.proofs.ListLemmas.{Contains-here}
use Rattle.druid_base.proofs.MemberLemmas.{Contains-later, Contains-nil, Contains-cons}
use Rattle.druid_query.specs.declared.aggregator.AggregatorKind.{AggregatorKind}
use Rattle.druid_query.specs.declared.aggregator.AggregatorKind.TheVariants.{Count, LongSum, LongMin, LongMax}
use Rattle.druid_partial.specs.Groups.{Key, Group, AreWords, key_cmp, InOrder, number_at, Occurs, IsAggregate, IsGroupOf, IsResult, IsMerge, known, column}
use Rattle.druid_partial.specs.Partials.{HasNumbers}
use Rattle.druid_partial.specs.Joined.{alone, joined, join_numbers, join_groups, put, merged}
use Rattle.druid_partial.specs.Orders.{key_cmp-total}
use Rattle.druid_partial.proofs.OrderLemmas.{no_rows}
use Rattle.druid_partial.proofs.NumberLemmas.{counted_is, again, joined-none}
use Rattle.druid_partial.proofs.GroupLemmas.{key_same, less_apart, at, one, at-append, at-here, at-absent, occurs_here, occurs_there, occurs_along, occurs_cases, occurs_left, occurs_right, no_occurrence, below_rest, in_order_rest, in_order_more, number_of, Alike, result_alike, alike_append, alike_swap, alike_itself}

abbrev pub AreKept : List AggregatorKind → List Group → Type 0
AreKept kinds groups = (g : Group) → Contains groups g → HasNumbers kinds g

alone_word : (kind : AggregatorKind) (x : ℤ) → FitsSigned w64 x → alone kind x ≡ x
alone_word Count x f = int_wrap_fits w64 x f
alone_word LongSum x f = int_wrap_fits w64 x f
alone_word LongMin x f = refl
alone_word LongMax x f = refl

again_word : (kind : AggregatorKind) (x : Option ℤ) → IfSome x (FitsSigned w64) → again kind x ≡ x
again_word kind None f = refl
again_word kind (Some x) f = ap (λ n. Some n) (alone_word kind x f)

abbrev pub IsWord : Option ℤ → Type 0
IsWord x = IfSome x (FitsSigned w64)

word_at : (numbers : List (Option ℤ)) (place : ℕ) → AreWords numbers → IfSome (slice_index_or numbers place None) (FitsSigned w64)
word_at [] place w = tt
word_at (x ∷ xs) zero w = All-head IsWord x xs w
word_at (x ∷ xs) (suc place) w = word_at xs place (All-tail IsWord x xs w)

-- a kept group tells its own numbers
pub kept_reports : (kinds : List AggregatorKind) (g : Group) → HasNumbers kinds g → (place : ℕ) (kind : AggregatorKind) → one kind place g ≡ number_at place g
kept_reports kinds g k place kind = again_word kind (number_at place g) (word_at g.numbers place k.words)

pub joined_at : (kinds : List AggregatorKind) (xs ys : List (Option ℤ)) → length xs ≡ length kinds → length ys ≡ length kinds → (place : ℕ) (kind : AggregatorKind) → slice_get kinds place ≡ Some kind → slice_index_or (join_numbers kinds xs ys) place None ≡ joined kind (slice_index_or xs place None) (slice_index_or ys place None)
joined_at [] xs ys p q place kind k = absurd (cc)
joined_at (c ∷ kinds) [] ys p q place kind k = absurd (omega arith)
joined_at (c ∷ kinds) (x ∷ xs) [] p q place kind k = absurd (omega arith)
joined_at (c ∷ kinds) (x ∷ xs) (y ∷ ys) p q zero kind k = some_kind c kind k
  where
    some_kind : (c kind : AggregatorKind) → Some c ≡ Some kind → joined c x y ≡ joined kind x y
    some_kind c kind k = let e : c ≡ kind = cc in ap (λ d. joined d x y) e
joined_at (c ∷ kinds) (x ∷ xs) (y ∷ ys) p q (suc place) kind k = joined_at kinds xs ys (omega arith) (omega arith) place kind k

pub joined_length : (kinds : List AggregatorKind) (xs ys : List (Option ℤ)) → length xs ≡ length kinds → length ys ≡ length kinds → length (join_numbers kinds xs ys) ≡ length kinds
joined_length [] xs ys p q = p
joined_length (c ∷ kinds) [] ys p q = absurd (omega arith)
joined_length (c ∷ kinds) (x ∷ xs) [] p q = absurd (omega arith)
joined_length (c ∷ kinds) (x ∷ xs) (y ∷ ys) p q = ap suc (joined_length kinds xs ys (omega arith) (omega arith))

-- ---- one group more in front

-- all rows are after a key
abbrev pub Beyond : Key → List Group → Type 0
Beyond key rows = (row : Group) → Contains rows row → key_cmp key row.key ≡ Less

beyond_result : (kinds : List AggregatorKind) (key : Key) (rows groups : List Group) → IsResult kinds rows groups → Beyond key rows → Beyond key groups
beyond_result kinds key rows groups r b g c =
    let there = (r.each g c).occurs in
    let P : Key → Type 0 = λ k. key_cmp key k ≡ Less in subst P there.2 (b there.0 there.1)

beyond_absent : (key : Key) (rows : List Group) → Beyond key rows → Occurs key rows → ⊥
beyond_absent key rows b o = less_apart key o.0.key (b o.0 o.1) (sym o.2)

-- a group in front that tells what some rows of its key do, which are in front of all others
pub front_group : (kinds : List AggregatorKind) (g : Group) (front rows groups : List Group) → length g.numbers ≡ length kinds → ((key : Key) → Occurs key front → g.key ≡ key) → Occurs g.key front → ((place : ℕ) (kind : AggregatorKind) → slice_get kinds place ≡ Some kind → number_at place g ≡ at kind g.key place front) → IsResult kinds rows groups → Beyond g.key rows → IsResult kinds (front ++ rows) (g ∷ groups)
front_group kinds g front rows groups numbers only there reports r b = record {
  ordered = in_order_more g groups (beyond_result kinds g.key rows groups r b) r.ordered;
  each = λ h c. ⊎_elim (λ e. let P : Group → Type 0 = λ x. IsGroupOf kinds (front ++ rows) x in subst P e first) (λ more. other h more) (Contains-cons g groups h c);
  whole = λ row c. ⊎_elim
      (λ l. occurs_along (g ∷ groups) g.key row.key (only row.key (row, l, refl)) (occurs_here g groups))
      (λ m. occurs_there g groups row.key (r.whole row m))
      (Contains-append_cases front rows row c);
}
  where
    first : IsGroupOf kinds (front ++ rows) g
    first = record {
      occurs = occurs_left front rows g.key there;
      one_each = numbers;
      aggregates = λ place kind k.
          let counted_here : number_at place g ≡ at kind g.key place (front ++ rows) =
          reports place kind k ∙ sym (joined-none kind (at kind g.key place front))
          ∙ ap (joined kind (at kind g.key place front)) (sym (at-absent kind place g.key rows (beyond_absent g.key rows b)))
          ∙ sym (at-append kind g.key place front rows) in
          let P : Option ℤ → Type 0 = λ n. IsAggregate kind (known (column g.key place (front ++ rows))) n in
          subst P (sym counted_here) (counted_is kind (known (column g.key place (front ++ rows))));
    }

    other : (h : Group) → Contains groups h → IsGroupOf kinds (front ++ rows) h
    other h c = record {
      occurs = occurs_right front rows h.key (r.each h c).occurs;
      one_each = (r.each h c).one_each;
      aggregates = λ place kind k.
          let apart : Occurs h.key front → ⊥ = λ o.
          less_apart g.key h.key (beyond_result kinds g.key rows groups r b h c) (only h.key o) in
          let counted_here : number_at place h ≡ at kind h.key place (front ++ rows) =
          number_of kinds rows groups r h c place kind k
          ∙ ap (λ x. joined kind x (at kind h.key place rows)) (sym (at-absent kind place h.key front apart))
          ∙ sym (at-append kind h.key place front rows) in
          let P : Option ℤ → Type 0 = λ n. IsAggregate kind (known (column h.key place (front ++ rows))) n in
          subst P (sym counted_here) (counted_is kind (known (column h.key place (front ++ rows))));
    }

-- a kept group in front
pub front_one : (kinds : List AggregatorKind) (g : Group) (rows groups : List Group) → HasNumbers kinds g → IsResult kinds rows groups → Beyond g.key rows → IsResult kinds (g ∷ rows) (g ∷ groups)
front_one kinds g rows groups k r b =
    front_group kinds g (g ∷ []) rows groups k.one_each
    (λ key o. ⊎_elim (λ e. e) (λ none. absurd (no_occurrence key none)) (occurs_cases g [] key o))
    (occurs_here g [])
    (λ place kind _. sym (kept_reports kinds g k place kind) ∙ sym (joined-none kind (one kind place g)) ∙ sym (at-here kind place g [] g.key refl))
    r b

-- two of one key in front, as one
pub front_two : (kinds : List AggregatorKind) (g h : Group) (rows groups : List Group) → HasNumbers kinds g → HasNumbers kinds h → g.key ≡ h.key → IsResult kinds rows groups → Beyond g.key rows → IsResult kinds (g ∷ h ∷ rows) (join_groups kinds g h ∷ groups)
front_two kinds g h rows groups k l e r b =
    front_group kinds (join_groups kinds g h) (g ∷ h ∷ []) rows groups (joined_length kinds g.numbers h.numbers k.one_each l.one_each)
    (λ key o. ⊎_elim (λ here. here) (λ more. ⊎_elim (λ there. e ∙ there) (λ none. absurd (no_occurrence key none)) (occurs_cases h [] key more)) (occurs_cases g (h ∷ []) key o))
    (occurs_here g (h ∷ []))
    (λ place kind p. joined_at kinds g.numbers h.numbers k.one_each l.one_each place kind p ∙ sym (both place kind))
    r b
  where
    both : (place : ℕ) (kind : AggregatorKind) → at kind g.key place (g ∷ h ∷ []) ≡ joined kind (number_at place g) (number_at place h)
    both place kind =
        at-here kind place g (h ∷ []) g.key refl
        ∙ ap (joined kind (one kind place g)) (at-here kind place h [] g.key e ∙ joined-none kind (one kind place h) ∙ kept_reports kinds h l place kind)
        ∙ ap (λ x. joined kind x (number_at place h)) (kept_reports kinds g k place kind)

kept_head : (kinds : List AggregatorKind) (g : Group) (gs : List Group) → AreKept kinds (g ∷ gs) → HasNumbers kinds g
kept_head kinds g gs k = k g (Contains-here g gs)

kept_rest : (kinds : List AggregatorKind) (g : Group) (gs : List Group) → AreKept kinds (g ∷ gs) → AreKept kinds gs
kept_rest kinds g gs k h c = k h (Contains-later g gs h c)

-- kept groups in order are the result over themselves
pub settled : (kinds : List AggregatorKind) (gs : List Group) → InOrder gs → AreKept kinds gs → IsResult kinds gs gs
settled kinds [] s k = no_rows kinds [] refl
settled kinds (g ∷ gs) s k =
    front_one kinds g gs gs (kept_head kinds g gs k) (settled kinds gs (in_order_rest g gs s) (kept_rest kinds g gs k)) (below_rest g gs s)

-- ---- the walk

beyond_append : (key : Key) (a b : List Group) → Beyond key a → Beyond key b → Beyond key (a ++ b)
beyond_append key a b p q row c = ⊎_elim (p row) (q row) (Contains-append_cases a b row c)

beyond_cons : (key : Key) (g : Group) (gs : List Group) → key_cmp key g.key ≡ Less → InOrder (g ∷ gs) → Beyond key (g ∷ gs)
beyond_cons key g gs l s row c =
    ⊎_elim (λ e. let P : Group → Type 0 = λ x. key_cmp key x.key ≡ Less in subst P e l)
    (λ more. key_cmp-total.trans key g.key row.key l (below_rest g gs s row more)) (Contains-cons g gs row c)

beyond_same : (a b : Key) (gs : List Group) → a ≡ b → Beyond a gs → Beyond b gs
beyond_same a b gs e p = let P : Key → Type 0 = λ k. Beyond k gs in subst P e p

less_back : (a b : Key) → key_cmp a b ≡ Greater → key_cmp b a ≡ Less
less_back a b e = key_cmp-total.antisymm b a ∙ ap ordering_reverse e

-- a row may stand among others
alike_move : (kinds : List AggregatorKind) (g : Group) (a b : List Group) → Alike kinds (g ∷ (a ++ b)) (a ++ (g ∷ b))
alike_move kinds g a b =
    let P : List Group → Type 0 = λ l. Alike kinds (g ∷ (a ++ b)) l in
    subst P (append_assoc a (g ∷ []) b) (alike_append kinds ((g ∷ []) ++ a) (a ++ (g ∷ [])) b b (alike_swap kinds (g ∷ []) a) (alike_itself kinds b))

put_is_merge : (kinds : List AggregatorKind) (x : Group) (xs : List Group) → ((ys : List Group) → InOrder ys → AreKept kinds ys → IsResult kinds (xs ++ ys) (merged kinds xs ys)) → InOrder (x ∷ xs) → HasNumbers kinds x → (ys : List Group) → InOrder ys → AreKept kinds ys → IsResult kinds (x ∷ (xs ++ ys)) (put kinds x (merged kinds xs) ys)
put_is_merge kinds x xs rest s k [] t l =
    front_one kinds x (xs ++ []) (merged kinds xs []) k (rest [] t l) (beyond_append x.key xs [] (below_rest x xs s) (λ row c. absurd (Contains-nil row c)))
put_is_merge kinds x xs rest s k (y ∷ ys) t l =
    by_order (put_is_merge kinds x xs rest s k ys (in_order_rest y ys t) (kept_rest kinds y ys l)) (key_cmp x.key y.key) refl
  where
    by_order : IsResult kinds (x ∷ (xs ++ ys)) (put kinds x (merged kinds xs) ys) → (o : Ordering) → key_cmp x.key y.key ≡ o → IsResult kinds (x ∷ (xs ++ (y ∷ ys))) (match_ordering o (x ∷ merged kinds xs (y ∷ ys)) (join_groups kinds x y ∷ merged kinds xs ys) (y ∷ put kinds x (merged kinds xs) ys))
    by_order later Less e =
        front_one kinds x (xs ++ (y ∷ ys)) _ k (rest (y ∷ ys) t l)
        (beyond_append x.key xs (y ∷ ys) (below_rest x xs s) (beyond_cons x.key y ys e t))
    by_order later Equal e =
        let same : x.key ≡ y.key = key_same x.key y.key e in
        result_alike kinds (x ∷ y ∷ (xs ++ ys)) (x ∷ (xs ++ (y ∷ ys))) _
        (alike_append kinds (x ∷ []) (x ∷ []) (y ∷ (xs ++ ys)) (xs ++ (y ∷ ys)) (alike_itself kinds (x ∷ [])) (alike_move kinds y xs ys))
        (front_two kinds x y (xs ++ ys) (merged kinds xs ys) k (kept_head kinds y ys l) same (rest ys (in_order_rest y ys t) (kept_rest kinds y ys l))
        (beyond_append x.key xs ys (below_rest x xs s) (beyond_same y.key x.key ys (sym same) (below_rest y ys t))))
    by_order later Greater e =
        result_alike kinds (y ∷ ((x ∷ xs) ++ ys)) ((x ∷ xs) ++ (y ∷ ys)) _ (alike_move kinds y (x ∷ xs) ys)
        (front_one kinds y ((x ∷ xs) ++ ys) _ (kept_head kinds y ys l)
        later (beyond_append y.key (x ∷ xs) ys (beyond_cons y.key x xs (less_back x.key y.key e) s) (below_rest y ys t)))

-- the walk gives the merge
pub merged_is_merge : (kinds : List AggregatorKind) (xs ys : List Group) → InOrder xs → AreKept kinds xs → InOrder ys → AreKept kinds ys → IsMerge kinds xs ys (merged kinds xs ys)
merged_is_merge kinds [] ys s k t l = settled kinds ys t l
merged_is_merge kinds (x ∷ xs) ys s k t l =
    put_is_merge kinds x xs (λ zs. merged_is_merge kinds xs zs (in_order_rest x xs s) (kept_rest kinds x xs k)) s (kept_head kinds x xs k) ys t l
