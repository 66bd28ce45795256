-- Results over rows: there is one, rows may stand in any order, and results are merged.
use Rattle.std.proofs.Common.{◌≡◌, ◌∙◌, ℕ, zero, suc, ◌<◌, ℤ, List, [], ◌∷◌, ◌++◌, length, Bool, true, false, cond, Option, Some, None, refl, sym, ap, subst, ◌⊎◌, inl, inr, ⊎_elim, arith, append_assoc}
use Rattle.std.specs.Prelude.{Contains, map, slice_get}
use Rattle.std.specs.List.{AllByRecursion}
use Rattle.std.specs.List.Sorted.{IsStrictlySortedBy}
use Rattle.std.specs.Ordering.{nat_cmp, is_eq, ordering_reverse}
use Rattle.std.specs.declared.cmp.Ordering.{Ordering}
use Rattle.std.specs.declared.cmp.Ordering.TheVariants.{Less, Equal, Greater}
use Rattle.std.specs.Cmp.Lexicographic.{slice_cmp}
use Rattle.std.proofs.lemmas.Cmp.{tied_itself}
use Rattle.std.proofs.lemmas.List.{map-append, append-nil, ext_get_or}
use Rattle.std.proofs.lemmas.List.Elements.{filter-append, Contains-append_left, Contains-append_right, Contains-append_cases}
use Rattle.std.proofs.lemmas.Map.Keys.{sorted_head, sorted_tail}
use Rattle.std.proofs.lemmas.Bool.{false_from_ne_true}
use Rattle.druid_base.proofs.ListLemmas.{Contains-here}
use Rattle.druid_segment_id.proofs.OrderLemmas.{both-Equal, nat_cmp-Equal, slice_cmp-Equal}
use Rattle.druid_base.proofs.MemberLemmas.{Contains-later, Contains-nil, Contains-cons}
use Rattle.druid_query.specs.declared.aggregator.AggregatorKind.{AggregatorKind}
use Rattle.druid_partial.specs.Groups.{Key, Group, value_cmp, key_cmp, key_of, InOrder, known, number_at, column, Occurs, IsAggregate, IsResult, IsMerge}
use Rattle.druid_partial.specs.Joined.{joined}
use Rattle.druid_partial.specs.Orders.{key_cmp-total}
use Rattle.druid_partial.proofs.NumberLemmas.{reported, reported-append, reported-again, counted_is, counted_alone, again, joined-none, joined-comm}

-- ---- keys that tie are one

value_same : (x y : Option (List ℕ)) → value_cmp x y ≡ Equal → x ≡ y
value_same None None e = refl
value_same None (Some y) e = absurd (cc)
value_same (Some x) None e = absurd (cc)
value_same (Some x) (Some y) e = ap (λ t. Some t) (slice_cmp-Equal x y e)

values_same : (xs ys : List (Option (List ℕ))) → slice_cmp value_cmp xs ys ≡ Equal → xs ≡ ys
values_same [] [] e = refl
values_same [] (y ∷ ys) e = absurd (cc)
values_same (x ∷ xs) [] e = absurd (cc)
values_same (x ∷ xs) (y ∷ ys) e =
    let parts = both-Equal (value_cmp x y) (slice_cmp value_cmp xs ys) e in
    let head : x ≡ y = value_same x y parts.0 in
    let rest : xs ≡ ys = values_same xs ys parts.1 in
    cc

pub key_same : (a b : Key) → key_cmp a b ≡ Equal → a ≡ b
key_same a b e =
    let parts = both-Equal (nat_cmp a.bucket b.bucket) (slice_cmp value_cmp a.values b.values) e in
    let bucket : a.bucket ≡ b.bucket = nat_cmp-Equal a.bucket b.bucket parts.0 in
    let values : a.values ≡ b.values = values_same a.values b.values parts.1 in
    λ i. record { bucket = bucket i; values = values i }

pub key_itself : (a : Key) → key_cmp a a ≡ Equal
key_itself a = tied_itself key_cmp-total a

tied_of : (a b : Key) → a ≡ b → key_cmp a b ≡ Equal
tied_of a b e = let P : Key → Type 0 = λ k. key_cmp a k ≡ Equal in subst P e (key_itself a)

-- a key below another is not it
pub less_apart : (a b : Key) → key_cmp a b ≡ Less → a ≡ b → ⊥
less_apart a b l e = let t : key_cmp a b ≡ Equal = tied_of a b e in cc

pub eq_yes : (o : Ordering) → is_eq o ≡ true → o ≡ Equal
eq_yes Less e = absurd (cc)
eq_yes Equal e = refl
eq_yes Greater e = absurd (cc)

-- ---- what is counted at a key

abbrev pub at : AggregatorKind → Key → ℕ → List Group → Option ℤ
at kind key place rows = reported kind (known (column key place rows))

-- what one group tells
abbrev pub one : AggregatorKind → ℕ → Group → Option ℤ
one kind place g = again kind (number_at place g)

known-append : (xs ys : List (Option ℤ)) → known (xs ++ ys) ≡ known xs ++ known ys
known-append [] ys = refl
known-append (None ∷ xs) ys = known-append xs ys
known-append (Some x ∷ xs) ys = ap (λ l. x ∷ l) (known-append xs ys)

column-append : (key : Key) (place : ℕ) (a b : List Group) → column key place (a ++ b) ≡ column key place a ++ column key place b
column-append key place a b =
    ap (map (number_at place)) (filter-append (λ g. is_eq (key_cmp key g.key)) a b) ∙ map-append (number_at place) _ _

pub at-append : (kind : AggregatorKind) (key : Key) (place : ℕ) (a b : List Group) → at kind key place (a ++ b) ≡ joined kind (at kind key place a) (at kind key place b)
at-append kind key place a b =
    ap (λ l. reported kind (known l)) (column-append key place a b) ∙ ap (reported kind) (known-append (column key place a) (column key place b))
    ∙ reported-append kind (known (column key place a)) (known (column key place b))

alone_if : (kind : AggregatorKind) (place : ℕ) (g : Group) (b : Bool) → reported kind (known (map (number_at place) (cond b (g ∷ []) []))) ≡ cond b (one kind place g) None
alone_if kind place g true = refl
alone_if kind place g false = refl

-- a group more in front
pub at-cons : (kind : AggregatorKind) (key : Key) (place : ℕ) (g : Group) (rows : List Group) → at kind key place (g ∷ rows) ≡ joined kind (cond (is_eq (key_cmp key g.key)) (one kind place g) None) (at kind key place rows)
at-cons kind key place g rows =
    at-append kind key place (g ∷ []) rows
    ∙ ap (λ x. joined kind x (at kind key place rows)) (alone_if kind place g (is_eq (key_cmp key g.key)))

pub at-here : (kind : AggregatorKind) (place : ℕ) (g : Group) (rows : List Group) (key : Key) → key ≡ g.key → at kind key place (g ∷ rows) ≡ joined kind (one kind place g) (at kind key place rows)
at-here kind place g rows key e =
    at-cons kind key place g rows
    ∙ ap (λ o. joined kind (cond (is_eq o) (one kind place g) None) (at kind key place rows)) (tied_of key g.key e)

pub at-apart : (kind : AggregatorKind) (place : ℕ) (g : Group) (rows : List Group) (key : Key) → (key ≡ g.key → ⊥) → at kind key place (g ∷ rows) ≡ at kind key place rows
at-apart kind place g rows key apart =
    at-cons kind key place g rows
    ∙ ap (λ b. joined kind (cond b (one kind place g) None) (at kind key place rows))
    (false_from_ne_true (is_eq (key_cmp key g.key)) (λ t. apart (key_same key g.key (eq_yes _ t))))

-- ---- which keys occur

pub occurs_here : (g : Group) (rows : List Group) → Occurs g.key (g ∷ rows)
occurs_here g rows = (g, Contains-here g rows, refl)

pub occurs_there : (g : Group) (rows : List Group) (key : Key) → Occurs key rows → Occurs key (g ∷ rows)
occurs_there g rows key o = (o.0, Contains-later g rows o.0 o.1, o.2)

pub occurs_along : (rows : List Group) (a b : Key) → a ≡ b → Occurs a rows → Occurs b rows
occurs_along rows a b e o = let P : Key → Type 0 = λ k. Occurs k rows in subst P e o

pub occurs_cases : (g : Group) (rows : List Group) (key : Key) → Occurs key (g ∷ rows) → (g.key ≡ key) ⊎ Occurs key rows
occurs_cases g rows key o =
    ⊎_elim (λ e. inl (ap key_of e ∙ o.2)) (λ c. inr (o.0, c, o.2)) (Contains-cons g rows o.0 o.1)

pub occurs_left : (a b : List Group) (key : Key) → Occurs key a → Occurs key (a ++ b)
occurs_left a b key o = (o.0, Contains-append_left a b o.0 o.1, o.2)

pub occurs_right : (a b : List Group) (key : Key) → Occurs key b → Occurs key (a ++ b)
occurs_right a b key o = (o.0, Contains-append_right a b o.0 o.1, o.2)

pub occurs_both : (a b : List Group) (key : Key) → Occurs key (a ++ b) → Occurs key a ⊎ Occurs key b
occurs_both a b key o =
    ⊎_elim (λ c. inl (o.0, c, o.2)) (λ c. inr (o.0, c, o.2)) (Contains-append_cases a b o.0 o.1)

pub no_occurrence : (key : Key) → Occurs key [] → ⊥
no_occurrence key o = Contains-nil o.0 o.1

same_or : (a b : Key) (o : Ordering) → key_cmp a b ≡ o → (a ≡ b) ⊎ (a ≡ b → ⊥)
same_or a b Less e = inr (less_apart a b e)
same_or a b Equal e = inl (key_same a b e)
same_or a b Greater e = inr (λ s. let t : key_cmp a b ≡ Equal = tied_of a b s in cc)

pub occurs_or : (key : Key) (rows : List Group) → Occurs key rows ⊎ (Occurs key rows → ⊥)
occurs_or key [] = inr (no_occurrence key)
occurs_or key (g ∷ rows) =
    ⊎_elim (λ e. inl (occurs_along (g ∷ rows) g.key key e (occurs_here g rows)))
    (λ apart. ⊎_elim (λ o. inl (occurs_there g rows key o)) (λ none. inr (λ o. ⊎_elim apart none (occurs_cases g rows key o))) (occurs_or key rows))
    (same_or g.key key _ refl)

-- where a key does not occur, nothing is counted
pub at-absent : (kind : AggregatorKind) (place : ℕ) (key : Key) (rows : List Group) → (Occurs key rows → ⊥) → at kind key place rows ≡ None
at-absent kind place key [] none = refl
at-absent kind place key (g ∷ rows) none =
    at-apart kind place g rows key (λ e. none (occurs_along (g ∷ rows) g.key key (sym e) (occurs_here g rows)))
    ∙ at-absent kind place key rows (λ o. none (occurs_there g rows key o))

-- ---- groups in order

pub below_rest : (g : Group) (gs : List Group) → InOrder (g ∷ gs) → (h : Group) → Contains gs h → key_cmp g.key h.key ≡ Less
below_rest g gs s = below_by g gs (sorted_head key_cmp g.key (map key_of gs) s)
  where
    below_by : (g : Group) (gs : List Group) → AllByRecursion (λ k. key_cmp g.key k ≡ Less) (map key_of gs) → (h : Group) → Contains gs h → key_cmp g.key h.key ≡ Less
    below_by g [] a h c = absurd (Contains-nil h c)
    below_by g (x ∷ xs) a h c =
        ⊎_elim (λ e. let P : Group → Type 0 = λ y. key_cmp g.key y.key ≡ Less in subst P e a.0) (λ more. below_by g xs a.1 h more) (Contains-cons x xs h c)

pub in_order_rest : (g : Group) (gs : List Group) → InOrder (g ∷ gs) → InOrder gs
in_order_rest g gs s = sorted_tail key_cmp g.key (map key_of gs) s

pub in_order_more : (g : Group) (gs : List Group) → ((h : Group) → Contains gs h → key_cmp g.key h.key ≡ Less) → InOrder gs → InOrder (g ∷ gs)
unfolding IsStrictlySortedBy
in_order_more g gs below s = (all_below g gs below, s)
  where
    all_below : (g : Group) (gs : List Group) → ((h : Group) → Contains gs h → key_cmp g.key h.key ≡ Less) → AllByRecursion (λ k. key_cmp g.key k ≡ Less) (map key_of gs)
    all_below g [] below = tt
    all_below g (x ∷ xs) below = (below x (Contains-here x xs), all_below g xs (λ h c. below h (Contains-later x xs h c)))

first_is_gone : (g : Group) (gs : List Group) → InOrder (g ∷ gs) → Occurs g.key gs → ⊥
first_is_gone g gs s o = less_apart g.key o.0.key (below_rest g gs s o.0 o.1) (sym o.2)

-- of groups in order, each alone tells what is counted at its key
pub at_group : (kind : AggregatorKind) (place : ℕ) (gs : List Group) → InOrder gs → (g : Group) → Contains gs g → at kind g.key place gs ≡ one kind place g
at_group kind place [] s g c = absurd (Contains-nil g c)
at_group kind place (x ∷ xs) s g c =
    ⊎_elim
    (λ e. at-here kind place x xs g.key (sym (ap key_of e))
    ∙ ap (joined kind (one kind place x)) (at-absent kind place g.key xs (λ o. first_is_gone x xs s (occurs_along xs g.key x.key (sym (ap key_of e)) o)))
    ∙ joined-none kind (one kind place x) ∙ ap (one kind place) e)
    (λ more. at-apart kind place x xs g.key (λ e. less_apart x.key g.key (below_rest x xs s g more) (sym e))
    ∙ at_group kind place xs (in_order_rest x xs s) g more)
    (Contains-cons x xs g c)

-- ---- a result tells at each key what its rows tell

pub number_of : (kinds : List AggregatorKind) (rows groups : List Group) → IsResult kinds rows groups → (g : Group) → Contains groups g → (place : ℕ) (kind : AggregatorKind) → slice_get kinds place ≡ Some kind → number_at place g ≡ at kind g.key place rows
number_of kinds rows groups r g c place kind k = counted_alone kind _ _ ((r.each g c).aggregates place kind k)

pub result_reports : (kinds : List AggregatorKind) (rows groups : List Group) → IsResult kinds rows groups → (place : ℕ) (kind : AggregatorKind) → slice_get kinds place ≡ Some kind → (key : Key) → at kind key place groups ≡ at kind key place rows
result_reports kinds rows groups r place kind k key =
    ⊎_elim
    (λ o.
    let g = o.0 in
    let here : at kind g.key place groups ≡ one kind place g = at_group kind place groups r.ordered g o.1 in
    let number : number_at place g ≡ at kind g.key place rows = number_of kinds rows groups r g o.1 place kind k in
    let all : at kind g.key place groups ≡ at kind g.key place rows =
    here ∙ ap (again kind) number ∙ reported-again kind (known (column g.key place rows)) in
    let P : Key → Type 0 = λ q. at kind q place groups ≡ at kind q place rows in subst P o.2 all)
    (λ none. at-absent kind place key groups none
    ∙ sym (at-absent kind place key rows (λ o.
    none (let there = r.whole o.0 o.1 in (there.0, there.1, there.2 ∙ o.2)))))
    (occurs_or key groups)

-- rows that tell the same
pub record Alike (kinds : List AggregatorKind) (a b : List Group) : Type 0 where
  pub to : (key : Key) → Occurs key a → Occurs key b
  pub back : (key : Key) → Occurs key b → Occurs key a
  pub same : (place : ℕ) (kind : AggregatorKind) → slice_get kinds place ≡ Some kind → (key : Key) → at kind key place a ≡ at kind key place b

pub result_alike : (kinds : List AggregatorKind) (a b groups : List Group) → Alike kinds a b → IsResult kinds a groups → IsResult kinds b groups
result_alike kinds a b groups alike r = record {
  ordered = r.ordered;
  each = λ g c. record {
    occurs = alike.to g.key (r.each g c).occurs;
    one_each = (r.each g c).one_each;
    aggregates = λ place kind k.
        let P : Option ℤ → Type 0 = λ n. IsAggregate kind (known (column g.key place b)) n in
        subst P (sym (number_of kinds a groups r g c place kind k ∙ alike.same place kind k g.key)) (counted_is kind (known (column g.key place b)));
  };
  whole = λ row c.
      let there = alike.back row.key (row, c, refl) in
      let group = r.whole there.0 there.1 in (group.0, group.1, group.2 ∙ there.2);
}

-- a result tells what its rows do
pub result_is_alike : (kinds : List AggregatorKind) (rows groups : List Group) → IsResult kinds rows groups → Alike kinds groups rows
result_is_alike kinds rows groups r = record {
  to = λ key o. let there = (r.each o.0 o.1).occurs in (there.0, there.1, there.2 ∙ o.2);
  back = λ key o. let there = r.whole o.0 o.1 in (there.0, there.1, there.2 ∙ o.2);
  same = λ place kind k key. result_reports kinds rows groups r place kind k key;
}

pub alike_append : (kinds : List AggregatorKind) (a b c d : List Group) → Alike kinds a b → Alike kinds c d → Alike kinds (a ++ c) (b ++ d)
alike_append kinds a b c d p q = record {
  to = λ key o. ⊎_elim (λ l. occurs_left b d key (p.to key l)) (λ r. occurs_right b d key (q.to key r)) (occurs_both a c key o);
  back = λ key o. ⊎_elim (λ l. occurs_left a c key (p.back key l)) (λ r. occurs_right a c key (q.back key r)) (occurs_both b d key o);
  same = λ place kind k key.
      at-append kind key place a c ∙ ap (λ x. joined kind x (at kind key place c)) (p.same place kind k key)
      ∙ ap (joined kind (at kind key place b)) (q.same place kind k key) ∙ sym (at-append kind key place b d);
}

pub alike_swap : (kinds : List AggregatorKind) (a b : List Group) → Alike kinds (a ++ b) (b ++ a)
alike_swap kinds a b = record {
  to = λ key o. ⊎_elim (occurs_right b a key) (occurs_left b a key) (occurs_both a b key o);
  back = λ key o. ⊎_elim (occurs_right a b key) (occurs_left a b key) (occurs_both b a key o);
  same = λ place kind k key.
      at-append kind key place a b ∙ joined-comm kind (at kind key place a) (at kind key place b) ∙ sym (at-append kind key place b a);
}

pub alike_itself : (kinds : List AggregatorKind) (a : List Group) → Alike kinds a a
alike_itself kinds a = record { to = λ key o. o; back = λ key o. o; same = λ place kind k key. refl }

pub alike_through : (kinds : List AggregatorKind) (a b c : List Group) → Alike kinds a b → Alike kinds b c → Alike kinds a c
alike_through kinds a b c p q = record {
  to = λ key o. q.to key (p.to key o);
  back = λ key o. p.back key (q.back key o);
  same = λ place kind k key. p.same place kind k key ∙ q.same place kind k key;
}

pub alike_equal : (kinds : List AggregatorKind) (a b : List Group) → a ≡ b → Alike kinds a b
alike_equal kinds a b e = subst (Alike kinds a) e (alike_itself kinds a)

-- the second of three lists put first
pub second_first : (kinds : List AggregatorKind) (a b c : List Group) → Alike kinds (a ++ (b ++ c)) (b ++ (a ++ c))
second_first kinds a b c =
    alike_through kinds (a ++ (b ++ c)) ((b ++ a) ++ c) (b ++ (a ++ c))
    (alike_through kinds (a ++ (b ++ c)) ((a ++ b) ++ c) ((b ++ a) ++ c) (alike_equal kinds (a ++ (b ++ c)) ((a ++ b) ++ c) (sym (append_assoc a b c)))
    (alike_append kinds (a ++ b) (b ++ a) c c (alike_swap kinds a b) (alike_itself kinds c)))
    (alike_equal kinds ((b ++ a) ++ c) (b ++ (a ++ c)) (append_assoc b a c))

-- ---- the laws

-- the merge of two results is the result over the rows of both
pub merge_of_results : (kinds : List AggregatorKind) (a b x y z : List Group) → IsResult kinds a x → IsResult kinds b y → IsMerge kinds x y z → IsResult kinds (a ++ b) z
merge_of_results kinds a b x y z p q m =
    result_alike kinds (x ++ y) (a ++ b) z (alike_append kinds x a y b (result_is_alike kinds a x p) (result_is_alike kinds b y q)) m

pub result_swap : (kinds : List AggregatorKind) (a b z : List Group) → IsResult kinds (a ++ b) z → IsResult kinds (b ++ a) z
result_swap kinds a b z r = result_alike kinds (a ++ b) (b ++ a) z (alike_swap kinds a b) r

-- ---- there is one result

place_has : (kinds : List AggregatorKind) (place : ℕ) → place < length kinds → (kind : AggregatorKind) × (slice_get kinds place ≡ Some kind)
place_has [] place h = absurd (omega arith)
place_has (kind ∷ kinds) zero h = (kind, refl)
place_has (kind ∷ kinds) (suc place) h = place_has kinds place (omega arith)

group_same : (a b : Group) → a.key ≡ b.key → a.numbers ≡ b.numbers → a ≡ b
group_same a b key numbers i = record { key = key i; numbers = numbers i }

same_group : (kinds : List AggregatorKind) (rows x y : List Group) → IsResult kinds rows x → IsResult kinds rows y → (g h : Group) → Contains x g → Contains y h → h.key ≡ g.key → g ≡ h
same_group kinds rows x y p q g h c d e =
    group_same g h (sym e) (ext_get_or None g.numbers h.numbers ((p.each g c).one_each ∙ sym (q.each h d).one_each)
    (λ place below.
    let kind = place_has kinds place (omega (arith, (p.each g c).one_each)) in
    number_of kinds rows x p g c place kind.0 kind.1
    ∙ ap (λ key. at kind.0 key place rows) (sym e)
    ∙ sym (number_of kinds rows y q h d place kind.0 kind.1)))

pub all_in : (kinds : List AggregatorKind) (rows x y : List Group) → IsResult kinds rows x → IsResult kinds rows y → (g : Group) → Contains x g → Contains y g
all_in kinds rows x y p q g c =
    let row = (p.each g c).occurs in
    let there = q.whole row.0 row.1 in
    let same : g ≡ there.0 = same_group kinds rows x y p q g there.0 c there.1 (there.2 ∙ row.2) in
    let P : Group → Type 0 = λ h. Contains y h in subst P (sym same) there.1

greater_of : (a b : Key) → key_cmp a b ≡ Less → key_cmp b a ≡ Less → ⊥
greater_of a b p q = let t : key_cmp a b ≡ ordering_reverse (key_cmp b a) = key_cmp-total.antisymm a b in less_twice (key_cmp a b) (key_cmp b a) p q t
  where
    less_twice : (o p : Ordering) → o ≡ Less → p ≡ Less → o ≡ ordering_reverse p → ⊥
    less_twice o p e f t = let g : ordering_reverse p ≡ Greater = ap ordering_reverse f in cc

heads_same : (a b : Group) (gs hs : List Group) → InOrder (a ∷ gs) → InOrder (b ∷ hs) → Contains (b ∷ hs) a → Contains (a ∷ gs) b → a ≡ b
heads_same a b gs hs p q c d =
    ⊎_elim (λ e. sym e)
    (λ more. ⊎_elim (λ e. e)
    (λ less. absurd (greater_of a.key b.key (below_rest a gs p b less) (below_rest b hs q a more)))
    (Contains-cons a gs b d))
    (Contains-cons b hs a c)

rest_in : (a b : Group) (gs hs : List Group) → a ≡ b → InOrder (a ∷ gs) → ((g : Group) → Contains (a ∷ gs) g → Contains (b ∷ hs) g) → (g : Group) → Contains gs g → Contains hs g
rest_in a b gs hs e p to g c =
    ⊎_elim (λ here. absurd (less_apart a.key g.key (below_rest a gs p g c) (ap key_of (e ∙ here)))) (λ more. more)
    (Contains-cons b hs g (to g (Contains-later a gs g c)))

pub one_list : (x y : List Group) → InOrder x → InOrder y → ((g : Group) → Contains x g → Contains y g) → ((g : Group) → Contains y g → Contains x g) → x ≡ y
one_list [] [] p q to back = refl
one_list [] (b ∷ hs) p q to back = absurd (Contains-nil b (back b (Contains-here b hs)))
one_list (a ∷ gs) [] p q to back = absurd (Contains-nil a (to a (Contains-here a gs)))
one_list (a ∷ gs) (b ∷ hs) p q to back =
    let head : a ≡ b = heads_same a b gs hs p q (to a (Contains-here a gs)) (back b (Contains-here b hs)) in
    let rest : gs ≡ hs =
    one_list gs hs (in_order_rest a gs p) (in_order_rest b hs q) (rest_in a b gs hs head p to) (rest_in b a hs gs (sym head) q back) in
    cc

pub one_result : (kinds : List AggregatorKind) (rows x y : List Group) → IsResult kinds rows x → IsResult kinds rows y → x ≡ y
one_result kinds rows x y p q =
    one_list x y p.ordered q.ordered (all_in kinds rows x y p q) (all_in kinds rows y x q p)

-- merging in either grouping gives one result
pub merges_regroup : (kinds : List AggregatorKind) (a b c x y z xy yz left right : List Group) → IsResult kinds a x → IsResult kinds b y → IsResult kinds c z → IsMerge kinds x y xy → IsMerge kinds xy z left → IsMerge kinds y z yz → IsMerge kinds x yz right → left ≡ right
merges_regroup kinds a b c x y z xy yz left right p q r m n o s =
    let front : IsResult kinds ((a ++ b) ++ c) left = merge_of_results kinds (a ++ b) c xy z left (merge_of_results kinds a b x y xy p q m) r n in
    let back : IsResult kinds (a ++ (b ++ c)) right = merge_of_results kinds a (b ++ c) x yz right p (merge_of_results kinds b c y z yz q r o) s in
    let P : List Group → Type 0 = λ l. IsResult kinds l left in
    one_result kinds (a ++ (b ++ c)) left right (subst P (append_assoc a b c) front) back

pub merge_with_nothing : (kinds : List AggregatorKind) (rows x y z : List Group) → IsResult kinds rows x → IsResult kinds [] y → IsMerge kinds x y z → z ≡ x
merge_with_nothing kinds rows x y z p q m =
    let P : List Group → Type 0 = λ l. IsResult kinds l z in
    one_result kinds rows z x (subst P (append-nil rows) (merge_of_results kinds rows [] x y z p q m)) p
