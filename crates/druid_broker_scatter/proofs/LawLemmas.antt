-- A plan is one, and its pieces may be asked for.
use Rattle.std.proofs.Common.{◌≡◌, ◌∙◌, ◌⊎◌, inl, inr, ℕ, zero, suc, ◌-◌, ◌<◌, List, [], ◌∷◌, length, get_or, All, Contains, refl, sym, ap, subst, arith}
use Rattle.std.specs.List.Sorted.{IsStrictlyIncreasing, IsStrictlySortedBy}
use Rattle.std.specs.Cmp.{IsTotalOrder}
use Rattle.std.specs.Ordering.{nat_cmp}
use Rattle.std.specs.declared.cmp.Ordering.{Ordering}
use Rattle.std.specs.declared.cmp.Ordering.TheVariants.{Less, Equal}
use Rattle.std.proofs.lemmas.Cmp.{nat_cmp_total, tied_itself}
use Rattle.std.proofs.lemmas.List.Elements.{All-head, All-tail, Contains-get_or}
use Rattle.std.proofs.lemmas.Map.Keys.{sorted_tail, Less-from_sorted}
use Rattle.druid_base.proofs.OrderLemmas.{nat_cmp-lt}
use Rattle.druid_base.proofs.ListLemmas.{IsStrictlyIncreasing-tail, IsStrictlyIncreasing-first}
use Rattle.druid_time.specs.Instant.{instant_count}
use Rattle.druid_time.specs.Extent.{Has, AnyHas}
use Rattle.druid_segment_id.specs.Group.{group_of}
use Rattle.druid_segment_id.specs.Identifier.{Identifier, IsIdentifier}
use Rattle.druid_segment_descriptor.specs.Described.{Described, IsDescribed}
use Rattle.druid_timeline_members.specs.Members.{Member}
use Rattle.druid_base.proofs.MemberLemmas.{Contains-map, Contains-cons, Contains-later, Contains-nil}
use Rattle.druid_timeline.specs.Holding.{Held, SameHeld}
use Rattle.druid_timeline.specs.Pieces.{Shown, AreRuns, IsStretch, Shows}
use Rattle.druid_timeline.proofs.RunsLemmas.{AreRuns-first, AreRuns-rest}
use Rattle.druid_timeline.proofs.HoldingLemmas.{from_filter, SameHeld-members, ArePiecesIn-same}
use Rattle.druid_timeline_chunks.proofs.ChunkLemmas.{same_group-exact}
use Rattle.druid_inventory.specs.Entry.{Entry}
use Rattle.druid_inventory.specs.Sources.{Serves, IsHoldingOf}
use Rattle.druid_query.specs.Query.{Query}
use Rattle.druid_query.specs.Asked.{Asked, LiesInside, Overlap}
use Rattle.druid_query.specs.SubQuery.{IsAsked}
use Rattle.druid_broker_scatter.specs.Plan.{Pair, asked_of, place_cmp, IsWanted, AreReplicas, IsPlanOf}
use Rattle.druid_broker_scatter.proofs.PlanLemmas.{each_less, less_each, runs_beyond, same_id}
use Rattle.druid_broker_scatter.proofs.AskedLemmas.{place_cmp-total}

-- ---- one list

apart : {K : Type 0} (R : K → K → Ordering) → IsTotalOrder R → (x y : K) → R x y ≡ Less → x ≡ y → ⊥
apart R o x y less same =
    let tied : R x y ≡ Equal = ap (R x) (sym same) ∙ tied_itself o x in
    let both : Less ≡ Equal = sym less ∙ tied in
    cc

sorted_first : {K : Type 0} (R : K → K → Ordering) (x : K) (xs : List K) → IsStrictlySortedBy R (x ∷ xs) → (y : K) → Contains xs y → R x y ≡ Less
unfolding IsStrictlySortedBy
sorted_first R x xs s y c = less_each R x xs s.0 y c

-- two lists in order with the same members are one
pub one_list : {K : Type 0} (R : K → K → Ordering) → IsTotalOrder R → (xs ys : List K) → IsStrictlySortedBy R xs → IsStrictlySortedBy R ys → ((a : K) → Contains xs a → Contains ys a) → ((a : K) → Contains ys a → Contains xs a) → xs ≡ ys
one_list R o [] [] s t to back = refl
one_list R o [] (y ∷ ys) s t to back = absurd (Contains-nil y (back y (0, omega arith, refl)))
one_list R o (x ∷ xs) [] s t to back = absurd (Contains-nil x (to x (0, omega arith, refl)))
one_list {K} R o (x ∷ xs) (y ∷ ys) s t to back =
    let rest = one_list R o xs ys (sorted_tail R x xs s) (sorted_tail R y ys t)
    (λ a c. elim (Contains-cons y ys a (to a (Contains-later x xs a c))) [
      | inl same ↦ absurd (apart R o x a (sorted_first R x xs s a c) (first ∙ same))
      | inr there ↦ there
    ])
    (λ a c. elim (Contains-cons x xs a (back a (Contains-later y ys a c))) [
      | inl same ↦ absurd (apart R o y a (sorted_first R y ys t a c) (sym first ∙ same))
      | inr there ↦ there
    ]) in
    λ i. first i ∷ rest i
  where
    first : x ≡ y
    first = elim (Contains-cons y ys x (to x (0, omega arith, refl))) [
      | inl same ↦ sym same
      | inr beyond ↦ elim (Contains-cons x xs y (back y (0, omega arith, refl))) [
        | inl same ↦ same
        | inr later ↦ absurd (apart R o x x (o.trans x y x (sorted_first R x xs s y later) (sorted_first R y ys t x beyond)) refl)
      ]
    ]

rising_sorted : (xs : List ℕ) → IsStrictlyIncreasing xs → IsStrictlySortedBy nat_cmp xs
unfolding IsStrictlySortedBy
rising_sorted [] up = tt
rising_sorted (x ∷ xs) up = (each_less nat_cmp x xs (λ y c. nat_cmp-lt x y (IsStrictlyIncreasing-first x xs y up c)), rising_sorted xs (IsStrictlyIncreasing-tail x xs up))

-- ---- one plan

same_nodes : (inventory : List Entry) (id : Identifier) (ms ns : List ℕ) → AreReplicas inventory id ms → AreReplicas inventory id ns → ms ≡ ns
same_nodes inventory id ms ns r s =
    one_list nat_cmp nat_cmp_total ms ns (rising_sorted ms r.rising) (rising_sorted ns s.rising) (λ n c. (s.all n).1 ((r.all n).0 c)) (λ n c. (r.all n).1 ((s.all n).0 c))

same_pairs : (inventory : List Entry) (ps qs : List Pair) → asked_of ps ≡ asked_of qs → All (λ p. AreReplicas inventory p.asked.0 p.nodes) ps → All (λ p. AreReplicas inventory p.asked.0 p.nodes) qs → ps ≡ qs
same_pairs inventory [] [] e r s = refl
same_pairs inventory [] (q ∷ qs) e r s = absurd (cc)
same_pairs inventory (p ∷ ps) [] e r s = absurd (cc)
same_pairs inventory (p ∷ ps) (q ∷ qs) e r s =
    let first : p.asked ≡ q.asked = cc in
    let more : asked_of ps ≡ asked_of qs = cc in
    let mine = All-head (λ p. AreReplicas inventory p.asked.0 p.nodes) p ps r in
    let theirs = All-head (λ p. AreReplicas inventory p.asked.0 p.nodes) q qs s in
    let nodes : p.nodes ≡ q.nodes = same_nodes inventory q.asked.0 p.nodes q.nodes (subst (λ (a : Asked). AreReplicas inventory a.0 p.nodes) first mine) theirs in
    let rest = same_pairs inventory ps qs more (All-tail (λ p. AreReplicas inventory p.asked.0 p.nodes) p ps r) (All-tail (λ p. AreReplicas inventory p.asked.0 p.nodes) q qs s) in
    λ i. record { asked = first i; nodes = nodes i } ∷ rest i

same_holding : (inventory : List Entry) (source : List ℕ) (old new : List Held) → IsHoldingOf inventory source old → IsHoldingOf inventory source new → SameHeld old new
same_holding inventory source old new h k x = (λ c. (h x).1 ((k x).0 c), λ c. (k x).1 ((h x).0 c))

wanted_over : (source : List ℕ) (old new : List Held) (ps qs : List Shown) (a : Asked) → SameHeld old new → ps ≡ qs → IsWanted source old ps a → IsWanted source new qs a
wanted_over source old new ps qs a same e w = record {
  of_source = w.of_source;
  shown = subst (λ (ss : List Shown). Contains ss (record { interval = a.1; group = group_of a.0 })) e w.shown;
  served = (w.served.0, (SameHeld-members old new (group_of a.0) same w.served.0).1 w.served.1, w.served.2, w.served.3);
}

pub one_plan : (inventory : List Entry) (query : Query) (ps qs : List Pair) → IsPlanOf inventory query ps → IsPlanOf inventory query qs → ps ≡ qs
one_plan inventory query ps qs p q =
    let same = same_holding inventory query.source p.held q.held p.holding q.holding in
    let back = same_holding inventory query.source q.held p.held q.holding p.holding in
    let pieces : p.pieces ≡ q.pieces = ArePiecesIn-same (AnyHas query.intervals) p.held q.held p.pieces q.pieces same p.visible q.visible in
    let asked : asked_of ps ≡ asked_of qs =
    one_list place_cmp place_cmp-total (asked_of ps) (asked_of qs) p.paired.ordered q.paired.ordered
    (λ a c. (q.paired.all a).1 (wanted_over query.source p.held q.held p.pieces q.pieces a same pieces ((p.paired.all a).0 c)))
    (λ a c. (p.paired.all a).1 (wanted_over query.source q.held p.held q.pieces p.pieces a back (sym pieces) ((q.paired.all a).0 c))) in
    same_pairs inventory ps qs asked p.paired.replicas q.paired.replicas

-- ---- what may be asked

stretch_of : (pieces : List Shown) → AreRuns pieces → (s : Shown) → Contains pieces s → IsStretch s
stretch_of [] r s c = absurd (Contains-nil s c)
stretch_of (x ∷ more) r s c = elim (Contains-cons x more s c) [
  | inl same ↦ subst IsStretch same (AreRuns-first x more r)
  | inr there ↦ stretch_of more (AreRuns-rest x more r) s there
]

pub shows_there : (pieces : List Shown) (s : Shown) (t : ℕ) → Contains pieces s → Has s.interval t → Shows pieces t s.group
shows_there [] s t c h = absurd (Contains-nil s c)
shows_there (x ∷ more) s t c h = elim (Contains-cons x more s c) [
  | inl same ↦ inl (ap (λ (y : Shown). y.group) same, subst (λ (y : Shown). Has y.interval t) (sym same) h)
  | inr there ↦ inr (shows_there more s t there h)
]

-- at one instant is one run
pub one_run : (pieces : List Shown) → AreRuns pieces → (a b : Shown) (t : ℕ) → Contains pieces a → Contains pieces b → Has a.interval t → Has b.interval t → a ≡ b
one_run [] r a b t c d h k = absurd (Contains-nil a c)
one_run (x ∷ more) r a b t c d h k = elim (Contains-cons x more a c) [
  | inl first ↦ elim (Contains-cons x more b d) [
    | inl second ↦ sym first ∙ second
    | inr there ↦ let beyond = runs_beyond x more r b there in
        let inside = subst (λ (y : Shown). Has y.interval t) (sym first) h in absurd (omega arith)
  ]
  | inr here ↦ elim (Contains-cons x more b d) [
    | inl second ↦ let beyond = runs_beyond x more r a here in
        let inside = subst (λ (y : Shown). Has y.interval t) (sym second) k in absurd (omega arith)
    | inr there ↦ one_run more (AreRuns-rest x more r) a b t here there h k
  ]
]

-- the piece as it is shown
abbrev shown_as : Asked → Shown
shown_as a = record { interval = a.1; group = group_of a.0 }

segment_served : (inventory : List Entry) (source : List ℕ) (held : List Held) (pieces : List Shown) (a : Asked) → IsHoldingOf inventory source held → IsWanted source held pieces a
    → (node : ℕ) × (d : Described) × Serves inventory node d × (d.id ≡ a.0)
segment_served inventory source held pieces a holding w =
    let of = Contains-map (λ (h : Held). h.member) _ w.served.0 w.served.1 in
    let kept = from_filter _ held of.0 of.1 in
    let group : of.0.group ≡ group_of a.0 = same_group-exact of.0.group (group_of a.0) kept.1 in
    let from = (holding of.0).0 kept.0 in
    let partition : from.1.id.partition ≡ a.0.partition = ap (λ (h : Held). h.member.partition) (sym from.4) ∙ ap (λ (m : Member). m.partition) of.2 ∙ w.served.2 in
    (from.0, from.1, from.2, same_id from.1 a.0 (from.3 ∙ sym w.of_source) (ap (λ (h : Held). h.group) (sym from.4) ∙ group) partition)

pub may_be_asked : (inventory : List Entry) (query : Query) (pairs : List Pair) (asked : List Asked) → IsPlanOf inventory query pairs → ((node : ℕ) (d : Described) → Serves inventory node d → IsDescribed d)
    → (a : Asked) × Contains asked a → ((a : Asked) → Contains asked a → Contains (asked_of pairs) a) → IsStrictlySortedBy place_cmp asked → IsAsked query.source asked
may_be_asked inventory query pairs asked p described some among sorted = record {
  some = some;
  valid = λ a c. (identified a c, (stretch_of p.pieces p.visible.runs (shown_as a) (wanted a c).shown, ends a c));
  sources = λ a c. (wanted a c).of_source;
  inside = λ a c. within a c;
  apart = λ i j a li lj over. places i j a li lj (trichotomy i j)
      (same_piece (get_or asked i a) (get_or asked j a) (Contains-get_or asked i a li) (Contains-get_or asked j a lj) over);
}
  where
    wanted : (a : Asked) → Contains asked a → IsWanted query.source p.held p.pieces a
    wanted a c = (p.paired.all a).0 (among a c)

    identified : (a : Asked) → Contains asked a → IsIdentifier a.0
    identified a c = let from = segment_served inventory query.source p.held p.pieces a p.holding (wanted a c) in subst IsIdentifier from.3 (described from.0 from.1 from.2).id

    within : (a : Asked) → Contains asked a → LiesInside a
    within a c t h = ((p.visible.shows t (group_of a.0)).0 (shows_there p.pieces (shown_as a) t (wanted a c).shown h)).1.candidate.has

    ends : (a : Asked) → Contains asked a → a.1.end < instant_count
    ends a c =
        let stretch : a.1.start < a.1.end = stretch_of p.pieces p.visible.runs (shown_as a) (wanted a c).shown in
        let last = within a c (a.1.end - 1) (omega arith, omega arith) in
        let valid = (identified a c).interval in
        let first = last.1 in
        let second = valid.1 in
        omega arith

    same_piece : (x y : Asked) → Contains asked x → Contains asked y → Overlap x y → x ≡ y
    same_piece x y c d over =
        let one : shown_as x ≡ shown_as y = one_run p.pieces p.visible.runs (shown_as x) (shown_as y) over.1.0 (wanted x c).shown (wanted y d).shown over.1.1 over.1.2 in
        λ i. (over.0 i, (one i).interval)

    trichotomy : (i j : ℕ) → (i < j) ⊎ ((i ≡ j) ⊎ (j < i))
    trichotomy i j = grind arith

    places : (i j : ℕ) (a : Asked) → i < length asked → j < length asked → (i < j) ⊎ ((i ≡ j) ⊎ (j < i)) → get_or asked i a ≡ get_or asked j a → i ≡ j
    places i j a li lj (inl before) same = absurd (apart place_cmp place_cmp-total _ _ (Less-from_sorted place_cmp asked i j a sorted before lj) same)
    places i j a li lj (inr (inl is)) same = is
    places i j a li lj (inr (inr beyond)) same = absurd (apart place_cmp place_cmp-total _ _ (Less-from_sorted place_cmp asked j i a sorted beyond li) (sym same))
