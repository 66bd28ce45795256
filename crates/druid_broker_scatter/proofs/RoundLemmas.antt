-- A round more, as it is asked.
use Rattle.std.proofs.Common.{◌≡◌, ◌∙◌, ◌⊎◌, inl, inr, ℕ, ◌+◌, ◌<◌, List, ◌++◌, map, Contains, option_map, Some, sym, ap, subst, arith}
use Rattle.std.specs.List.{slice_get}
use Rattle.std.specs.List.Sorted.{IsStrictlyIncreasing, IsStrictlySortedBy}
use Rattle.std.proofs.lemmas.List.{length-map}
use Rattle.std.proofs.lemmas.List.Elements.{Contains-append_cases}
use Rattle.std.proofs.lemmas.List.Kept.{AllPairs-from_increasing}
use Rattle.std.proofs.lemmas.Option.{get_or_from_slice_get, slice_get-map, slice_get_within}
use Rattle.druid_base.proofs.MemberLemmas.{Contains-map, Contains-map_back}
use Rattle.druid_query.specs.Asked.{Asked}
use Rattle.druid_query.specs.Query.{Query}
use Rattle.druid_broker_scatter.specs.Plan.{Pair, place_cmp}
use Rattle.druid_broker_scatter.specs.Gathered.{Exchange, Asks}
use Rattle.druid_broker_scatter.specs.Pending.{PendingSlice, Ask, AreOrdered, AreAskedBefore, AsksAt, Holds, IsRound, ask_of, wanted_of}
use Rattle.druid_broker_scatter.proofs.AskedLemmas.{contains_get, get_append, get_contains, get_front, wanted_back, wanted_by}
use Rattle.druid_broker_scatter.proofs.StateLemmas.{wanted_sorted}

-- what stands later is more
rises : {X : Type 0} (f : X → ℕ) (xs : List X) (i j : ℕ) (x y : X) → IsStrictlyIncreasing (map f xs) → i < j → slice_get xs i ≡ Some x → slice_get xs j ≡ Some y → f x < f y
rises f xs i j x y up less at there =
    let first = get_or_from_slice_get (map f xs) i (f x) (f x) (slice_get-map f xs i ∙ ap (option_map f) at) in
    let second = get_or_from_slice_get (map f xs) j (f y) (f x) (slice_get-map f xs j ∙ ap (option_map f) there) in
    let below = AllPairs-from_increasing (map f xs) up i j (f x) less (omega (arith, slice_get_within xs j y there, length-map xs f)) in
    omega (arith, first, second, below)

-- exchanges of a round over what is left, whatever came before
module _ (query : Query) (order : List ℕ → List ℕ) (pairs : List Pair) (waits left : List PendingSlice) (round : ℕ) (exchanges more : List Exchange) (o : AreOrdered order pairs waits)
    (h : Holds query waits left round exchanges) (r : IsRound round left (map ask_of more)) where
  pub in_waits : (w : PendingSlice) → Contains left w → Contains waits w
  in_waits w c = ((h.left_are w).0 c).0

  -- the exchange asks for what is wanted of its node
  pub of_node : (e : Exchange) → Contains more e → e.asked ≡ wanted_of round left e.node
  of_node e c = (r.each (ask_of e) (Contains-map_back ask_of more e c)).0

  -- a piece that it asks for waits, and has its turn
  pub waits_for : (e : Exchange) (a : Asked) → Contains more e → Contains e.asked a → (w : PendingSlice) × Contains left w × (w.asked ≡ a) × (slice_get w.order round ≡ Some e.node)
  waits_for e a c asks = wanted_by round e.node left a (subst (λ (xs : List Asked). Contains xs a) (of_node e c) asks)

  pub has_turn_now : (e : Exchange) (w : PendingSlice) → Contains more e → Contains waits w → Contains e.asked w.asked → Contains left w × (slice_get w.order round ≡ Some e.node)
  has_turn_now e w c in_w asks =
      let v = waits_for e w.asked c asks in
      subst (λ (u : PendingSlice). Contains left u × (slice_get u.order round ≡ Some e.node)) (o.own v.0 w (in_waits v.0 v.1) in_w v.2) (v.1, v.3)

  -- a piece that waits is asked of the node whose turn it is
  pub asked_now : (w : PendingSlice) (node : ℕ) → Contains left w → slice_get w.order round ≡ Some node → (e : Exchange) × Contains more e × Asks e w.asked node
  asked_now w node c at =
      let ask = Contains-map (λ (ask : Ask). ask.0) (map ask_of more) node (r.all w node c at) in
      let e = Contains-map ask_of more ask.0 ask.1 in
      let same : e.0.node ≡ node = ap (λ (ask : Ask). ask.0) e.2 ∙ ask.2 in
      (e.0, e.1, (same, subst (λ (xs : List Asked). Contains xs w.asked) (sym (of_node e.0 e.1)) (wanted_back round e.0.node left w c (at ∙ ap Some (sym same)))))

  is_now : (e : Exchange) (w : PendingSlice) (s : ℕ) → Contains more e → Contains waits w → AsksAt e w s → s ≡ round
  is_now e w s c in_w asks = (o.each w in_w).once s round e.node asks.1 (has_turn_now e w c in_w asks.0).1

  -- what was asked before was asked in a round before
  was_before : (e : Exchange) (w : PendingSlice) (s : ℕ) → Contains exchanges e → Contains waits w → AsksAt e w s → s < round
  was_before e w s c in_w asks =
      let p = h.asked.planned e w.asked c asks.0 in
      let there = subst (λ (u : PendingSlice). slice_get u.order p.1 ≡ Some e.node) (o.own p.0 w p.2 in_w p.3) p.4 in
      subst (λ (n : ℕ). n < round) ((o.each w in_w).once p.1 s e.node there asks.1) p.5

  -- the round asks a node for no piece that it was asked for before
  pub not_again : (x y : Exchange) (a : Asked) (n : ℕ) → Contains exchanges x → Contains more y → Asks x a n → Asks y a n → ⊥
  not_again x y a n old new asks also =
      let v = waits_for y a new also.1 in
      let less = was_before x v.0 round old (in_waits v.0 v.1) (subst (Contains x.asked) (sym v.2) asks.1, v.3 ∙ ap Some (also.0 ∙ sym asks.0)) in
      omega (arith, less)

  later_node : (i j : ℕ) (x y : Exchange) → i < j → slice_get more i ≡ Some x → slice_get more j ≡ Some y → x.node < y.node
  later_node i j x y less at there =
      rises (λ (ask : Ask). ask.0) (map ask_of more) i j (ask_of x) (ask_of y) r.rising less (slice_get-map ask_of more i ∙ ap (option_map ask_of) at)
      (slice_get-map ask_of more j ∙ ap (option_map ask_of) there)

  -- of one node it has one exchange
  one_of_node : (i j : ℕ) (x y : Exchange) → slice_get more i ≡ Some x → slice_get more j ≡ Some y → x.node ≡ y.node → i ≡ j
  one_of_node i j x y at there same = which (trichotomy i j)
    where
      trichotomy : (i j : ℕ) → (i < j) ⊎ ((i ≡ j) ⊎ (j < i))
      trichotomy i j = grind arith

      which : (i < j) ⊎ ((i ≡ j) ⊎ (j < i)) → i ≡ j
      which (inl less) = let up = later_node i j x y less at there in absurd (omega arith)
      which (inr (inl one)) = one
      which (inr (inr more)) = let up = later_node j i y x more there at in absurd (omega arith)

  pub asked_more : AreAskedBefore query waits (round + 1) (exchanges ++ more)
  asked_more = record {
    planned = λ e a c asks. elim (Contains-append_cases exchanges more e c) [
      | inl old ↦ let p = h.asked.planned e a old asks in (p.0, p.1, p.2, p.3, p.4, omega (arith, p.5))
      | inr new ↦ let w = waits_for e a new asks in (w.0, round, in_waits w.0 w.1, w.2, w.3, omega arith)
    ];
    asks = λ e c. elim (Contains-append_cases exchanges more e c) [
      | inl old ↦ h.asked.asks e old
      | inr new ↦ let some = r.each (ask_of e) (Contains-map_back ask_of more e new) in (some.1, some.2)
    ];
    in_order = λ e c. elim (Contains-append_cases exchanges more e c) [
      | inl old ↦ h.asked.in_order e old
      | inr new ↦ subst (IsStrictlySortedBy place_cmp) (sym (of_node e new)) (wanted_sorted round e.node left h.ordered)
    ];
    asked_once = λ a n i j x y at there both. elim (get_append exchanges more i x at) [
      | inl old ↦ elim (get_append exchanges more j y there) [
        | inl older ↦ h.asked.asked_once a n i j x y old older both
        | inr new ↦ absurd (not_again x y a n (get_contains exchanges i x old) (get_contains more new.0 y new.2) both.0 both.1)
      ]
      | inr new ↦ elim (get_append exchanges more j y there) [
        | inl old ↦ absurd (not_again y x a n (get_contains exchanges j y old) (get_contains more new.0 x new.2) both.1 both.0)
        | inr newer ↦ let one = one_of_node new.0 newer.0 x y new.2 newer.2 (both.0.0 ∙ sym both.1.0) in omega (arith, new.1, newer.1, one)
      ]
    ];
    by_round = λ i j x y v w s t less at there in_v in_w asks also. elim (get_append exchanges more i x at) [
      | inl old ↦ elim (get_append exchanges more j y there) [
        | inl older ↦ h.asked.by_round i j x y v w s t less old older in_v in_w asks also
        | inr new ↦
            let before = was_before x v s (get_contains exchanges i x old) in_v asks in
            let now = is_now y w t (get_contains more new.0 y new.2) in_w also in
            inl (omega (arith, before, now))
      ]
      | inr new ↦ elim (get_append exchanges more j y there) [
        | inl old ↦ let inside = slice_get_within exchanges j y old in absurd (omega (arith, new.1, inside))
        | inr newer ↦
            let first = is_now x v s (get_contains more new.0 x new.2) in_v asks in
            let second = is_now y w t (get_contains more newer.0 y newer.2) in_w also in
            inr (first ∙ sym second, later_node new.0 newer.0 x y (omega (arith, new.1, newer.1)) new.2 newer.2)
      ]
    ];
    in_turn = λ i e w s t n at in_w asks less there. elim (get_append exchanges more i e at) [
      | inl old ↦ let d = h.asked.in_turn i e w s t n old in_w asks less there in (d.0, d.1, d.2, get_front exchanges more d.0 d.1 d.3, d.4, d.5)
      | inr new ↦
          let c = get_contains more new.0 e new.2 in
          let now = is_now e w s c in_w asks in
          let waiting = (has_turn_now e w c in_w asks.0).0 in
          let d = h.done w t n waiting there (omega (arith, now)) in
          let place = contains_get exchanges d.0 d.1 in
          (place.0, d.0, omega (arith, new.1, place.2), get_front exchanges more place.0 d.0 place.1, d.2, ((h.left_are w).0 waiting).1 d.0 d.1)
    ];
  }
