-- What was asked, before the first round and in the end.
use Rattle.std.proofs.Common.{◌≡◌, ◌∙◌, ◌↔◌, ◌⊎◌, inl, inr, ℕ, zero, suc, ◌+◌, ◌<◌, ◌≤◌, true, List, [], ◌∷◌, ◌++◌, length, map, filter, Option, Some, None, Contains, refl, sym, ap, subst, arith}
use Rattle.std.specs.List.{slice_get}
use Rattle.std.specs.List.Sorted.{IsStrictlySortedBy}
use Rattle.std.proofs.lemmas.Bool.{false≢true}
use Rattle.std.proofs.lemmas.Bool.Decides.{Decides-eqb}
use Rattle.std.proofs.lemmas.Cmp.{then_total, on_total, nat_cmp_total, tied_itself}
use Rattle.std.proofs.lemmas.List.Elements.{All-contains, All-from_recursion}
use Rattle.std.proofs.lemmas.List.Sorted.{Contains-permutation, IsPermutation-sym}
use Rattle.std.proofs.lemmas.Option.{slice_get-get_or}
use Rattle.std.specs.Cmp.{IsTotalOrder}
use Rattle.std.specs.declared.cmp.Ordering.{Ordering}
use Rattle.std.specs.declared.cmp.Ordering.TheVariants.{Less, Equal}
use Rattle.druid_base.proofs.MemberLemmas.{Contains-map, Contains-map_back, Contains-cons, Contains-later, Contains-nil}
use Rattle.druid_timeline.proofs.HoldingLemmas.{in_filter, from_filter}
use Rattle.druid_query.specs.Asked.{Asked}
use Rattle.druid_broker_scatter.specs.Plan.{Pair, asked_of, place_cmp}
use Rattle.druid_query.specs.Query.{Query}
use Rattle.druid_broker_scatter.specs.Gathered.{Exchange, Asks, AsksInRound, AreAsked, Gives}
use Rattle.druid_broker_scatter.specs.Pending.{PendingSlice, pieces_of, is_node, has_turn, wanted_of, AsksAt, IsOrdered, AreOrdered, AreAskedBefore, Holds}

-- ---- places

pub get_contains : {X : Type 0} (xs : List X) (i : ℕ) (x : X) → slice_get xs i ≡ Some x → Contains xs x
get_contains [] i x e = absurd (cc)
get_contains (y ∷ xs) zero x e = let same : y ≡ x = cc in (0, omega arith, same)
get_contains (y ∷ xs) (suc i) x e = Contains-later y xs x (get_contains xs i x e)

pub contains_get : {X : Type 0} (xs : List X) (x : X) → Contains xs x → (i : ℕ) × (slice_get xs i ≡ Some x) × (i < length xs)
contains_get xs x c = (c.0, slice_get-get_or xs c.0 x c.1 ∙ ap Some c.2, c.1)

-- a place in two lists after one another
pub get_append : {X : Type 0} (xs ys : List X) (i : ℕ) (x : X) → slice_get (xs ++ ys) i ≡ Some x
    → (slice_get xs i ≡ Some x) ⊎ ((k : ℕ) × (i ≡ length xs + k) × (slice_get ys k ≡ Some x))
get_append [] ys i x e = inr (i, omega arith, e)
get_append (z ∷ xs) ys zero x e = inl e
get_append (z ∷ xs) ys (suc i) x e = elim (get_append xs ys i x e) [
  | inl first ↦ inl first
  | inr second ↦ inr (second.0, omega (arith, second.1), second.2)
]

pub get_front : {X : Type 0} (xs ys : List X) (i : ℕ) (x : X) → slice_get xs i ≡ Some x → slice_get (xs ++ ys) i ≡ Some x
get_front [] ys i x e = absurd (cc)
get_front (z ∷ xs) ys zero x e = e
get_front (z ∷ xs) ys (suc i) x e = get_front xs ys i x e

-- ---- what a round asks a node for

pub is_node-true : (o : Option ℕ) (n : ℕ) → is_node o n ≡ true → o ≡ Some n
is_node-true None n e = absurd (false≢true e)
is_node-true (Some m) n e = ap Some ((Decides-eqb m n).0 e)

pub is_node-same : (o : Option ℕ) (n : ℕ) → o ≡ Some n → is_node o n ≡ true
is_node-same o n e = subst (λ (x : _). is_node x n ≡ true) (sym e) ((Decides-eqb n n).1 refl)

pub wanted_by : (round node : ℕ) (left : List PendingSlice) (a : Asked) → Contains (wanted_of round left node) a
    → (w : PendingSlice) × Contains left w × (w.asked ≡ a) × (slice_get w.order round ≡ Some node)
wanted_by round node left a c =
    let of = Contains-map (λ (w : PendingSlice). w.asked) (filter (has_turn round node) left) a c in
    let kept = from_filter (has_turn round node) left of.0 of.1 in
    (of.0, kept.0, of.2, is_node-true (slice_get of.0.order round) node kept.1)

pub wanted_back : (round node : ℕ) (left : List PendingSlice) (w : PendingSlice) → Contains left w → slice_get w.order round ≡ Some node → Contains (wanted_of round left node) w.asked
wanted_back round node left w c at =
    Contains-map_back (λ (w : PendingSlice). w.asked) (filter (has_turn round node) left) w
    (in_filter (has_turn round node) left w c (is_node-same (slice_get w.order round) node at))

-- ---- the start

no_place : {X : Type 0} (i : ℕ) (x : X) → slice_get [] i ≡ Some x → ⊥
no_place i x e = cc

-- nothing was asked
none_before : (query : Query) (waits : List PendingSlice) → AreAskedBefore query waits 0 []
none_before query waits = record {
  planned = λ e a in_it c. absurd (Contains-nil e in_it);
  asks = λ e in_it. absurd (Contains-nil e in_it);
  in_order = λ e in_it. absurd (Contains-nil e in_it);
  asked_once = λ a n i j x y at there both. absurd (no_place i x at);
  by_round = λ i j x y v w r t less at there in_v in_w asks also. absurd (no_place i x at);
  in_turn = λ i x w r t n at in_w asks less there. absurd (no_place i x at);
}

-- and whatever was to be asked
pub no_asks : (order : List ℕ → List ℕ) (query : Query) (pairs : List Pair) → AreAsked order query pairs []
no_asks order query pairs = record {
  planned = λ e a in_it c. absurd (Contains-nil e in_it);
  asks = λ e in_it. absurd (Contains-nil e in_it);
  in_order = λ e in_it. absurd (Contains-nil e in_it);
  asked_once = λ a n i j x y at there both. absurd (no_place i x at);
  by_round = λ i j x y p q r s less at there in_p in_q asks also. absurd (no_place i x at);
  in_turn = λ i e p r s n at in_p asks less there. absurd (no_place i e at);
}

pub start : (query : Query) (waits : List PendingSlice) → IsStrictlySortedBy place_cmp (pieces_of waits) → Holds query waits waits 0 []
start query waits s = record {
  asked = none_before query waits;
  left_are = λ w. (λ c. (c, λ e in_it g. Contains-nil e in_it), λ c. c.0);
  ordered = s;
  done = λ w r n c at before. absurd (omega arith);
  given_once = λ a i j x y at there both. absurd (no_place i x at);
}

-- ---- the end

pub own_keys : {X K : Type 0} (R : K → K → Ordering) → IsTotalOrder R → (f : X → K) (xs : List X) → IsStrictlySortedBy R (map f xs) → (x y : X) → Contains xs x → Contains xs y → f x ≡ f y → x ≡ y
unfolding IsStrictlySortedBy
own_keys R o f [] s x y c d e = absurd (Contains-nil x c)
own_keys R o f (z ∷ xs) s x y c d e =
    elim (Contains-cons z xs x c) [
      | inl first ↦ elim (Contains-cons z xs y d) [
        | inl second ↦ sym first ∙ second
        | inr there ↦ absurd (apart y there (ap f first ∙ e))
      ]
      | inr here ↦ elim (Contains-cons z xs y d) [
        | inl second ↦ absurd (apart x here (ap f second ∙ sym e))
        | inr there ↦ own_keys R o f xs s.1 x y here there e
      ]
    ]
  where
    apart : (y : _) → Contains xs y → f z ≡ f y → ⊥
    apart y there same =
        let less : R (f z) (f y) ≡ Less = All-contains (λ k. R (f z) k ≡ Less) (map f xs) (f y) (All-from_recursion (λ k. R (f z) k ≡ Less) (map f xs) s.0) (Contains-map_back f xs y there) in
        let tied : R (f z) (f y) ≡ Equal = ap (R (f z)) (sym same) ∙ tied_itself o (f z) in
        cc

pub place_cmp-total : IsTotalOrder place_cmp
place_cmp-total = then_total (on_total (λ (a : Asked). a.1.start) nat_cmp_total) (on_total (λ (a : Asked). a.0.partition) nat_cmp_total)

-- all rounds are over: no order is longer
pub record IsOver (left : List PendingSlice) (round : ℕ) : Type 0 where
  pub each : (w : PendingSlice) → Contains left w → length w.order ≤ round

pub missing_are : (query : Query) (order : List ℕ → List ℕ) (pairs : List Pair) (waits left : List PendingSlice) (round : ℕ) (exchanges : List Exchange) → AreOrdered order pairs waits
    → Holds query waits left round exchanges → (a : Asked)
    → Contains (pieces_of left) a ↔ (Contains (asked_of pairs) a × ((e : Exchange) → Contains exchanges e → Gives query e a → ⊥))
missing_are query order pairs waits left round exchanges o h a = (
  λ c. let of = Contains-map (λ (w : PendingSlice). w.asked) left a c in
      let is = (h.left_are of.0).0 of.1 in
      let there : Contains (pieces_of waits) a = subst (Contains (pieces_of waits)) of.2 (Contains-map_back (λ (w : PendingSlice). w.asked) waits of.0 is.0) in
      (subst (λ (xs : _). Contains xs a) o.whole there, λ e in_it g. is.1 e in_it (subst (Gives query e) (sym of.2) g)),
  λ c. let of = Contains-map (λ (w : PendingSlice). w.asked) waits a (subst (λ (xs : _). Contains xs a) (sym o.whole) c.0) in
      let is = (h.left_are of.0).1 (of.1, λ e in_it g. c.1 e in_it (subst (Gives query e) of.2 g)) in
      subst (Contains (pieces_of left)) of.2 (Contains-map_back (λ (w : PendingSlice). w.asked) left of.0 is),
)

-- the pieces of a plan stand in its order
plan_sorted : (order : List ℕ → List ℕ) (pairs : List Pair) (waits : List PendingSlice) → AreOrdered order pairs waits → IsStrictlySortedBy place_cmp (asked_of pairs)
plan_sorted order pairs waits o = subst (IsStrictlySortedBy place_cmp) o.whole o.sorted

-- the pair of a piece that waits is the only one of its piece
own_pair : (order : List ℕ → List ℕ) (pairs : List Pair) (waits : List PendingSlice) → AreOrdered order pairs waits → (w : PendingSlice) → Contains waits w → (p : Pair) → Contains pairs p → w.asked ≡ p.asked
    → (q : IsOrdered order pairs w) × (q.pair ≡ p)
own_pair order pairs waits o w in_w p in_p same =
    let q = o.each w in_w in
    (q, own_keys place_cmp place_cmp-total (λ (p : Pair). p.asked) pairs (plan_sorted order pairs waits o) q.pair p q.in_plan in_p (q.of ∙ same))

pub missing_were_asked : (query : Query) (order : List ℕ → List ℕ) (pairs : List Pair) (waits left : List PendingSlice) (round : ℕ) (exchanges : List Exchange) → AreOrdered order pairs waits
    → Holds query waits left round exchanges → IsOver left round → (p : Pair) (node : ℕ) → Contains pairs p → Contains (pieces_of left) p.asked
    → Contains p.nodes node → (e : Exchange) × Contains exchanges e × Asks e p.asked node
missing_were_asked query order pairs waits left round exchanges o h over p node c missing serves =
    let of = Contains-map (λ (w : PendingSlice). w.asked) left p.asked missing in
    let q = own_pair order pairs waits o of.0 ((h.left_are of.0).0 of.1).0 p c of.2 in
    let there = Contains-permutation q.0.pair.nodes of.0.order node q.0.moved (subst (λ (r : Pair). Contains r.nodes node) (sym q.1) serves) in
    let at = contains_get of.0.order node there in
    let long = over.each of.0 of.1 in
    let d = h.done of.0 at.0 node of.1 at.1 (omega arith) in
    (d.0, d.1, (d.2.0, subst (Contains d.0.asked) of.2 d.2.1))

-- a pair of the plan waits, with its nodes in their order
its_wait : (order : List ℕ → List ℕ) (pairs : List Pair) (waits : List PendingSlice) → AreOrdered order pairs waits → (p : Pair) → Contains pairs p
    → (w : PendingSlice) × Contains waits w × (w.asked ≡ p.asked) × (w.order ≡ order p.nodes)
its_wait order pairs waits o p c =
    let of = Contains-map (λ (w : PendingSlice). w.asked) waits p.asked (subst (λ (xs : _). Contains xs p.asked) (sym o.whole) (Contains-map_back (λ (p : Pair). p.asked) pairs p c)) in
    let q = own_pair order pairs waits o of.0 of.1 p c of.2 in
    (of.0, of.1, of.2, q.0.ordered ∙ ap (λ (r : Pair). order r.nodes) q.1)

-- what a round asks of a pair is asked of its piece, where that waits
at_wait : (order : List ℕ → List ℕ) (p : Pair) (w : PendingSlice) (e : Exchange) (round : ℕ) → w.asked ≡ p.asked → w.order ≡ order p.nodes → AsksInRound order e p round → AsksAt e w round
at_wait order p w e round same ordered asks = (subst (Contains e.asked) (sym same) asks.0, ap (λ (xs : List ℕ). slice_get xs round) ordered ∙ asks.1)

pub are_asked : (query : Query) (order : List ℕ → List ℕ) (pairs : List Pair) (waits : List PendingSlice) (round : ℕ) (exchanges : List Exchange) → AreOrdered order pairs waits
    → AreAskedBefore query waits round exchanges → AreAsked order query pairs exchanges
are_asked query order pairs waits round exchanges o h = record {
  planned = λ e a in_it c.
      let w = h.planned e a in_it c in
      let q = o.each w.0 w.2 in
      let same : q.pair.asked ≡ a = q.of ∙ w.3 in (
        q.pair,
        w.1,
        q.in_plan,
        same,
        Contains-permutation w.0.order q.pair.nodes e.node (IsPermutation-sym q.pair.nodes w.0.order q.moved) (get_contains w.0.order w.1 e.node w.4),
        (subst (Contains e.asked) (sym same) c, ap (λ (xs : List ℕ). slice_get xs w.1) (sym q.ordered) ∙ w.4),
      );
  asks = h.asks;
  in_order = h.in_order;
  asked_once = h.asked_once;
  by_round = λ i j x y p q r s less at there in_p in_q asks also.
      let v = its_wait order pairs waits o p in_p in
      let w = its_wait order pairs waits o q in_q in
      h.by_round i j x y v.0 w.0 r s less at there v.1 w.1 (at_wait order p v.0 x r v.2 v.3 asks) (at_wait order q w.0 y s w.2 w.3 also);
  in_turn = λ i e p r s n at in_p asks less there.
      let w = its_wait order pairs waits o p in_p in
      let d = h.in_turn i e w.0 r s n at w.1 (at_wait order p w.0 e r w.2 w.3 asks) less (ap (λ (xs : List ℕ). slice_get xs s) w.3 ∙ there) in
      (d.0, d.1, d.2, d.3, (d.4.0, subst (Contains d.1.asked) w.2 d.4.1), λ g. d.5 (subst (Gives query d.1) (sym w.2) g));
}
