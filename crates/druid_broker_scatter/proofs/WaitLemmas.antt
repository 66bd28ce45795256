-- What waits, and what is kept of it.
use Rattle.std.proofs.Common.{◌≡◌, ◌≢◌, ◌∙◌, ◌↔◌, ◌⊎◌, ◌==◌, inl, inr, ℕ, zero, suc, ◌+◌, ◌<◌, ◌≤◌, Bool, true, false, cond, IsTrue, List, [], ◌∷◌, ◌++◌, length, get_or, take, map, Option, Some, None, Err, All, Contains, refl, sym, ap, subst, arith}
use Rattle.std.specs.List.{slice_get}
use Rattle.std.specs.List.Sorted.{IsBinarySearchResult, IsPartitionPoint, IsPermutation, IsStrictlyIncreasing, IsStrictlySortedBy}
use Rattle.std.specs.Ordering.{is_eq, nat_cmp, ordering_index}
use Rattle.std.specs.declared.cmp.Ordering.TheVariants.{Less, Equal, Greater}
use Rattle.std.specs.Cmp.{IsTotalOrder, both_tied, first_so, second_so, unsigned_ties, unsigned_Decides}
use Rattle.std.proofs.lemmas.Bool.{false≢true}
use Rattle.std.proofs.lemmas.Bool.Decides.{Decides-eqb, nat_tests}
use Rattle.std.proofs.lemmas.Cmp.{ranked, tied_itself, then_total, on_total, nat_cmp_total}
use Rattle.std.proofs.lemmas.List.{get_or-map, length-map, take_more, take_all, map_more, map_push}
use Rattle.std.proofs.lemmas.List.Elements.{Contains-get_or, Contains-push, Contains-push_cases, Contains-append_left, All-contains}
use Rattle.std.proofs.lemmas.List.Kept.{AllPairs-from_increasing}
use Rattle.std.proofs.lemmas.Option.{slice_get_within, get_or_from_slice_get}
use Rattle.druid_base.proofs.ListLemmas.{IsStrictlyIncreasing-first, IsStrictlyIncreasing-tail}
use Rattle.druid_base.proofs.MemberLemmas.{Contains-later, Contains-map, Contains-map_back}
use Rattle.druid_base.proofs.MovedLemmas.{StandAlone, alone-permutation}
use Rattle.druid_query.specs.Asked.{Asked}
use Rattle.druid_broker_scatter.specs.Plan.{Pair, asked_of, place_cmp}
use Rattle.druid_broker_scatter.specs.Pending.{PendingSlice, Found, Missed, StandsOnce, IsOrdered, AreOrdered, StandsIn, at_cmp, is_missed, missed_of, place_of, pieces_of, stays, stays_at}
use Rattle.druid_broker_scatter.proofs.AskedLemmas.{own_keys, place_cmp-total}

-- ---- orders

rising_alone : (xs : List ℕ) → IsStrictlyIncreasing xs → StandAlone (λ x y. x ≡ y) xs
rising_alone xs up i j d li lj e = both (trichotomy i j)
  where
    trichotomy : (i j : ℕ) → (i < j) ⊎ ((i ≡ j) ⊎ (j < i))
    trichotomy i j = grind arith

    both : (i < j) ⊎ ((i ≡ j) ⊎ (j < i)) → i ≡ j
    both (inl before) = let below = AllPairs-from_increasing xs up i j d before lj in absurd (omega arith)
    both (inr (inl same)) = same
    both (inr (inr beyond)) = let below = AllPairs-from_increasing xs up j i d beyond li in absurd (omega arith)

-- nodes that rise stand once, in whatever order they are picked
pub once_picked : (nodes order : List ℕ) → IsPermutation nodes order → IsStrictlyIncreasing nodes → StandsOnce order
once_picked nodes order moved up i j n at there =
    alone-permutation (λ x y. x ≡ y) nodes order moved (rising_alone nodes up) i j n (slice_get_within order i n at) (slice_get_within order j n there)
    (get_or_from_slice_get order i n n at ∙ sym (get_or_from_slice_get order j n n there))

pub all_ordered : (order : List ℕ → List ℕ) (pairs : List Pair) (waits : List PendingSlice) → IsStrictlySortedBy place_cmp (asked_of pairs) → pieces_of waits ≡ map (λ p. p.asked) pairs → All (IsOrdered order pairs) waits
    → AreOrdered order pairs waits
all_ordered order pairs waits s whole each = record {
  whole = whole;
  sorted = subst (IsStrictlySortedBy place_cmp) (sym whole) s;
  each = λ w c. All-contains (IsOrdered order pairs) waits w each c;
  own = own_keys place_cmp place_cmp-total (λ (w : PendingSlice). w.asked) waits (subst (IsStrictlySortedBy place_cmp) (sym whole) s);
}

pub most_more : (waits : List PendingSlice) (k most new : ℕ) (x : PendingSlice) → k < length waits → x ≡ get_or waits k x → length x.order ≤ new → most ≤ new
    → ((w : PendingSlice) → Contains (take k waits) w → length w.order ≤ most) → (w : PendingSlice) → Contains (take (k + 1) waits) w → length w.order ≤ new
most_more waits k most new x within at here up below w c =
    elim (Contains-push_cases (take k waits) (get_or waits k x) w (subst (λ (xs : _). Contains xs w) (take_more waits k x within) c)) [
      | inl old ↦ let h = below w old in omega arith
      | inr same ↦ subst (λ (v : PendingSlice). length v.order ≤ new) (at ∙ same) here
    ]

pub most_all : (waits : List PendingSlice) (k most : ℕ) → length waits ≤ k → ((w : PendingSlice) → Contains (take k waits) w → length w.order ≤ most) → (w : PendingSlice) → Contains waits w → length w.order ≤ most
most_all waits k most over below w c = below w (subst (λ (xs : _). Contains xs w) (sym (take_all k waits over)) c)

-- ---- places

pub at_cmp-total : IsTotalOrder at_cmp
at_cmp-total = then_total (on_total (λ (p : ℕ × ℕ). p.0) nat_cmp_total) (on_total (λ (p : ℕ × ℕ). p.1) nat_cmp_total)

pub tied_places : (p q : ℕ × ℕ) → is_eq (at_cmp p q) ≡ true → p ≡ q
tied_places p q e =
    let both = both_tied _ _ _ _ (unsigned_ties p.0 q.0) (unsigned_ties p.1 q.1) ∙ e in
    let first : p.0 ≡ q.0 = (unsigned_Decides p.0 q.0).0 (first_so _ _ both) in
    let second : p.1 ≡ q.1 = (unsigned_Decides p.1 q.1).0 (second_so _ _ both) in
    λ i. (first i, second i)

-- a place more
place_more : (done : List Asked) (a : Asked) (p : ℕ × ℕ) (tied old new : Bool) → tied ≡ is_eq (at_cmp (place_of a) p) → new ≡ cond tied true old → (IsTrue old ↔ StandsIn done p)
    → (IsTrue new ↔ StandsIn (done ++ a ∷ []) p)
place_more done a p true old new same e was = (λ t. (a, Contains-push done a, tied_places (place_of a) p (sym same)), λ s. e)
place_more done a p false old new same e was = (
  λ t. let before = was.0 (sym e ∙ t) in (before.0, Contains-append_left done (a ∷ []) before.0 before.1, before.2),
  λ s. elim (Contains-push_cases done a s.0 s.1) [
    | inl before ↦ e ∙ was.1 (s.0, before, s.2)
    | inr is ↦ absurd (false≢true (same ∙ ap (λ (q : ℕ × ℕ). is_eq (at_cmp (place_of a) q)) (sym s.2 ∙ ap place_of (sym is)) ∙ ap is_eq (tied_itself at_cmp-total (place_of a))))
  ],
)

pub place_step : (asked : List Asked) (k : ℕ) (item : Asked) (key p : ℕ × ℕ) (old new : Bool) → k < length asked → item ≡ get_or asked k item → key ≡ place_of item
    → new ≡ cond (is_eq (at_cmp key p)) true old → (IsTrue old ↔ StandsIn (take k asked) p) → (IsTrue new ↔ StandsIn (take (k + 1) asked) p)
place_step asked k item key p old new within at place e was =
    let more : take (k + 1) asked ≡ take k asked ++ item ∷ [] = take_more asked k item within ∙ ap (λ (x : Asked). take k asked ++ x ∷ []) (sym at) in
    subst (λ (l : List Asked). IsTrue new ↔ StandsIn l p) (sym more)
    (place_more (take k asked) item p (is_eq (at_cmp (place_of item) p)) old new refl (e ∙ ap (λ (q : ℕ × ℕ). cond (is_eq (at_cmp q p)) true old) place) was)

-- a pair more waits
pub waits_more : (pairs : List Pair) (old new : List PendingSlice) (k : ℕ) (p : Pair) (w : PendingSlice) → k < length pairs → p ≡ get_or pairs k p → new ≡ old ++ w ∷ [] → w.asked ≡ p.asked
    → pieces_of old ≡ map (λ p. p.asked) (take k pairs) → pieces_of new ≡ map (λ p. p.asked) (take (k + 1) pairs)
waits_more pairs old new k p w within at e is so_far =
    ap pieces_of e ∙ map_push (λ (w : PendingSlice). w.asked) old w ∙ ap (λ (xs : List Asked). xs ++ w.asked ∷ []) so_far
    ∙ ap (λ (a : Asked). map (λ (p : Pair). p.asked) (take k pairs) ++ a ∷ []) (is ∙ ap (λ (p : Pair). p.asked) at)
    ∙ sym (map_more (λ (p : Pair). p.asked) pairs k p within)

pub is_ordered : (order : List ℕ → List ℕ) (pairs : List Pair) (k : ℕ) (p : Pair) (w : PendingSlice) → k < length pairs → p ≡ get_or pairs k p → w.asked ≡ p.asked → w.order ≡ order p.nodes → IsPermutation p.nodes w.order
    → StandsOnce w.order → IsOrdered order pairs w
is_ordered order pairs k p w within at is ordered moved once = record {
  pair = p;
  in_plan = subst (Contains pairs) (sym at) (Contains-get_or pairs k p within);
  of = sym is;
  ordered = ordered;
  moved = moved;
  once = once;
}

pub all_waiting : (pairs : List Pair) (waits : List PendingSlice) (k : ℕ) → length pairs ≤ k → pieces_of waits ≡ map (λ p. p.asked) (take k pairs) → pieces_of waits ≡ map (λ p. p.asked) pairs
all_waiting pairs waits k over so_far = so_far ∙ ap (map (λ (p : Pair). p.asked)) (take_all k pairs over)

-- ---- what an answer misses, by its node

pub head_missed : (m : Missed) (missed : List Missed) (node : ℕ) → m.0 ≡ node → missed_of (m ∷ missed) node ≡ m.1
head_missed m missed node same = ap (λ (b : Bool). cond b m.1 (missed_of missed node)) ((Decides-eqb m.0 node).1 same)

pub tail_missed : (m : Missed) (missed : List Missed) (node : ℕ) → m.0 ≢ node → missed_of (m ∷ missed) node ≡ missed_of missed node
tail_missed m missed node other = is (m.0 == node) refl
  where
    is : (b : Bool) → (m.0 == node) ≡ b → cond (m.0 == node) m.1 (missed_of missed node) ≡ missed_of missed node
    is true e = absurd (other ((Decides-eqb m.0 node).0 e))
    is false e = ap (λ (b : Bool). cond b m.1 (missed_of missed node)) e

-- of a node that stands there
pub found_at : {X : Type 0} (g : X → Missed) (xs : List X) (node i : ℕ) (x : X) → IsStrictlyIncreasing (map (λ (m : Missed). m.0) (map g xs)) → i < length xs → x ≡ get_or xs i x
    → ((d : X) → nat_cmp (g (get_or xs i d)).0 node ≡ Equal) → missed_of (map g xs) node ≡ (g x).1
found_at {X} g xs node i x up within is equal = at xs i up within is (ranked (g x).0 node Equal (sym (subst (λ (y : X). nat_cmp (g y).0 node ≡ Equal) (sym is) (equal x))))
  where
    at : (xs : List X) (i : ℕ) → IsStrictlyIncreasing (map (λ (m : Missed). m.0) (map g xs)) → i < length xs → x ≡ get_or xs i x → (g x).0 ≡ node → missed_of (map g xs) node ≡ (g x).1
    at [] i up within is same = absurd (omega arith)
    at (y ∷ xs) zero up within is same = head_missed (g y) (map g xs) node (ap (λ (z : X). (g z).0) (sym is) ∙ same) ∙ ap (λ (z : X). (g z).1) (sym is)
    at (y ∷ xs) (suc i) up within is same =
        let there : Contains xs x = (i, omega arith, sym is) in
        let above = IsStrictlyIncreasing-first (g y).0 (map (λ (m : Missed). m.0) (map g xs)) (g x).0 up (Contains-map_back (λ (m : Missed). m.0) (map g xs) (g x) (Contains-map_back g xs x there)) in
        tail_missed (g y) (map g xs) node (λ e. omega (arith, above, e, same)) ∙ at xs i (IsStrictlyIncreasing-tail (g y).0 (map (λ (m : Missed). m.0) (map g xs)) up) (omega arith) is same

none_found : (missed : List Missed) (node : ℕ) → ((m : Missed) → Contains missed m → m.0 ≢ node) → missed_of missed node ≡ None
none_found [] node apart = refl
none_found (m ∷ missed) node apart = tail_missed m missed node (apart m (0, omega arith, refl)) ∙ none_found missed node (λ x c. apart x (Contains-later m missed x c))

-- of a node that a search does not find
pub not_found : {X : Type 0} (g : X → Missed) (xs : List X) (node i : ℕ) → IsStrictlyIncreasing (map (λ (m : Missed). m.0) (map g xs)) → IsBinarySearchResult (λ y. nat_cmp (g y).0 node) xs (Err i) → missed_of (map g xs) node ≡ None
not_found {X} g xs node i up search' = none_found (map g xs) node (λ m c same.
    let x = Contains-map g xs m c in
    apart x.0 x.1 (ap (λ (m : Missed). m.0) x.2 ∙ same))
  where
    rank_up : (a b : ℕ) → a ≤ b → ordering_index (nat_cmp a node) ≤ ordering_index (nat_cmp b node)
    rank_up a b h = grind (arith, nat_tests)

    before_or : (k j : ℕ) → k ≤ j → (k < j) ⊎ (k ≡ j)
    before_or k j h = grind arith

    up_to : (k j : ℕ) (d : X) → k ≤ j → j < length xs → (g (get_or xs k d)).0 ≤ (g (get_or xs j d)).0
    up_to k j d le within = elim (before_or k j le) [
      | inl less ↦
          let inside : k < length xs = omega arith in
          let below = AllPairs-from_increasing (map (λ (m : Missed). m.0) (map g xs)) up k j (g d).0 less (omega (arith, within, length-map (map g xs) (λ (m : Missed). m.0), length-map xs g)) in
          let first = get_or-map (λ (m : Missed). m.0) (map g xs) k (g d) (g d).0 (omega (arith, inside, length-map xs g)) ∙ ap (λ (m : Missed). m.0) (get_or-map g xs k d (g d) inside) in
          let second = get_or-map (λ (m : Missed). m.0) (map g xs) j (g d) (g d).0 (omega (arith, within, length-map xs g)) ∙ ap (λ (m : Missed). m.0) (get_or-map g xs j d (g d) within) in
          omega (arith, below, first, second)
      | inr same ↦ let is = ap (λ (n : ℕ). (g (get_or xs n d)).0) same in omega (arith, is)
    ]

    part : IsPartitionPoint (λ y. nat_cmp (g y).0 node ≡ Less) (λ y. nat_cmp (g y).0 node ≡ Greater) xs i
    part = search' (λ k j d le within. rank_up (g (get_or xs k d)).0 (g (get_or xs j d)).0 (up_to k j d le within))

    sides : (k : ℕ) → (k < i) ⊎ (i ≤ k)
    sides k = grind arith

    apart : (x : X) → Contains xs x → (g x).0 ≡ node → ⊥
    apart x c same = elim (sides c.0) [
      | inl less ↦ let low = ranked (g (get_or xs c.0 x)).0 node Less (sym (part.0 c.0 x (omega arith) less)) in
          let is = ap (λ (y : X). (g y).0) c.2 in omega (arith, low, is, same)
      | inr more ↦ let high = ranked (g (get_or xs c.0 x)).0 node Greater (sym (part.1 c.0 x more c.1)) in
          let is = ap (λ (y : X). (g y).0) c.2 in omega (arith, high, is, same)
    ]

-- whether the piece waits on, by what the exchange with its node misses
pub stays_so : (round : ℕ) (missed : List Missed) (w : PendingSlice) (node : ℕ) (found : Option Found) → slice_get w.order round ≡ Some node → missed_of missed node ≡ found → is_missed found (place_of w.asked) ≡ stays round missed w
stays_so round missed w node found at is = sym (ap (λ (o : Option ℕ). stays_at o missed (place_of w.asked)) at ∙ ap (λ (f : Option Found). is_missed f (place_of w.asked)) is)
