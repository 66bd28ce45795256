-- The pieces of a plan are all that are wanted, once each and in order.
use Rattle.std.proofs.Common.{◌≡◌, ◌∙◌, ◌↔◌, ◌==◌, inl, inr, ℕ, ◌+◌, ◌<◌, ◌≤◌, Bool, true, false, not, cond, List, [], ◌∷◌, ◌++◌, length, get_or, map, filter, take, All, Contains, append_assoc, refl, sym, ap, subst, arith}
use Rattle.std.specs.List.{AllByRecursion}
use Rattle.std.specs.List.Sorted.{IsStrictlyIncreasing, IsStrictlySortedBy}
use Rattle.std.specs.Ordering.{nat_cmp, ordering_then, MatchOrdering}
use Rattle.std.specs.declared.cmp.Ordering.{Ordering}
use Rattle.std.specs.declared.cmp.Ordering.TheVariants.{Less, Equal, Greater}
use Rattle.std.proofs.lemmas.Cmp.{ranked}
use borrow.Author.Tests.{eqb-true}
use Rattle.std.proofs.lemmas.Bool.{cases_Bool, false≢true, not-true}
use Rattle.std.proofs.lemmas.List.Elements.{All-weaker, Contains-get_or, Contains-append_cases, All-contains, All-head, All-tail, All-from_recursion}
use Rattle.std.proofs.lemmas.List.{map_push, map_more, take_more, take_all, flat_map_more}
use Rattle.druid_base.proofs.ListLemmas.{IsStrictlyIncreasing-tail, IsStrictlyIncreasing-first}
use Rattle.druid_time.specs.Extent.{Extent, AnyHas, SameInstants}
use Rattle.druid_segment_id.specs.Group.{Group, group_of, same_group}
use Rattle.druid_segment_id.specs.Identifier.{Identifier}
use Rattle.druid_segment_descriptor.specs.Described.{Described}
use Rattle.druid_timeline_members.specs.Members.{Member, HasPartition}
use Rattle.druid_base.proofs.MemberLemmas.{Contains-map, Contains-map_back, Contains-flat_map, Contains-flat_map_back, Contains-cons, Contains-later, Contains-nil}
use Rattle.druid_timeline.specs.Holding.{Held, Serving, held_of, members_of, HasRows, ServesRows}
use Rattle.druid_timeline.proofs.HoldingLemmas.{in_filter, from_filter}
use Rattle.druid_timeline_chunks.proofs.ChunkLemmas.{same_group-same, same_group-exact}
use Rattle.druid_timeline.specs.Pieces.{Shown, Reported, shown_of, AreRuns, ArePiecesIn, ArePartitions}
use Rattle.druid_timeline.specs.Visible.{IsVisible}
use Rattle.druid_timeline.proofs.RunsLemmas.{AreRuns-first, AreRuns-rest}
use Rattle.druid_inventory.specs.Entry.{Entry}
use Rattle.druid_inventory.specs.Sources.{Serves, HasSource, IsHoldingOf}
use Rattle.druid_query.specs.Query.{Query}
use Rattle.druid_query.specs.Asked.{Asked}
use Rattle.druid_broker_scatter.specs.Plan.{Pair, asked_of, IsPartServed, IsWanted, AreReplicas, place_cmp, IsPlanOf}
use Rattle.druid_broker_scatter.specs.Planned.{asked_at, asked_for, asked_in, IsPart, has_nodes, IsServedBy}

-- ---- order

pub each_less : {K : Type 0} (R : K → K → Ordering) (x : K) (ys : List K) → ((y : K) → Contains ys y → R x y ≡ Less) → AllByRecursion (λ y. R x y ≡ Less) ys
each_less R x [] below = tt
each_less R x (y ∷ ys) below = (below y (0, omega arith, refl), each_less R x ys (λ z c. below z (Contains-later y ys z c)))

pub less_each : {K : Type 0} (R : K → K → Ordering) (x : K) (ys : List K) → AllByRecursion (λ y. R x y ≡ Less) ys → (y : K) → Contains ys y → R x y ≡ Less
less_each R x ys s y c = All-contains (λ y. R x y ≡ Less) ys y (All-from_recursion (λ y. R x y ≡ Less) ys s) c

pub sorted_append : {K : Type 0} (R : K → K → Ordering) (xs ys : List K) → IsStrictlySortedBy R xs → IsStrictlySortedBy R ys → ((x y : K) → Contains xs x → Contains ys y → R x y ≡ Less) → IsStrictlySortedBy R (xs ++ ys)
unfolding IsStrictlySortedBy
sorted_append R [] ys s t below = t
sorted_append R (x ∷ xs) ys s t below = (
  each_less R x (xs ++ ys)
      (λ y c. elim (Contains-append_cases xs ys y c) [ inl front ↦ less_each R x xs s.0 y front | inr back ↦ below x y (0, omega arith, refl) back ]),
  sorted_append R xs ys s.1 t (λ a b c e. below a b (Contains-later x xs a c) e),
)

is_less : (a b : ℕ) (r : Ordering) → MatchOrdering r (a < b) (a ≡ b) (b < a) → a < b → r ≡ Less
is_less a b Less m h = refl
is_less a b Equal m h = absurd (omega arith)
is_less a b Greater m h = absurd (omega arith)

is_equal : (a b : ℕ) (r : Ordering) → MatchOrdering r (a < b) (a ≡ b) (b < a) → a ≡ b → r ≡ Equal
is_equal a b Less m h = absurd (omega arith)
is_equal a b Equal m h = refl
is_equal a b Greater m h = absurd (omega arith)

-- a piece that starts earlier stands before
pub starts_before : (a b : Asked) → a.1.start < b.1.start → place_cmp a b ≡ Less
starts_before a b h =
    ap (λ (o : Ordering). ordering_then o (nat_cmp a.0.partition b.0.partition)) (is_less a.1.start b.1.start (nat_cmp a.1.start b.1.start) (ranked a.1.start b.1.start (nat_cmp a.1.start b.1.start) refl) h)

-- of one start, one of a lower partition
pub lower_before : (a b : Asked) → a.1.start ≡ b.1.start → a.0.partition < b.0.partition → place_cmp a b ≡ Less
lower_before a b e h =
    ap (λ (o : Ordering). ordering_then o (nat_cmp a.0.partition b.0.partition)) (is_equal a.1.start b.1.start (nat_cmp a.1.start b.1.start) (ranked a.1.start b.1.start (nat_cmp a.1.start b.1.start) refl) e)
    ∙ is_less a.0.partition b.0.partition (nat_cmp a.0.partition b.0.partition) (ranked a.0.partition b.0.partition (nat_cmp a.0.partition b.0.partition) refl) h

-- the partitions of a piece
part_order : (source : List ℕ) (t : Reported) (parts : List ℕ) → IsStrictlyIncreasing parts → IsStrictlySortedBy place_cmp (map (asked_at source t) parts)
unfolding IsStrictlySortedBy
part_order source t [] h = tt
part_order source t (p ∷ parts) h = (
  each_less place_cmp (asked_at source t p) (map (asked_at source t) parts)
      (λ y c. let of = Contains-map (asked_at source t) parts y c in
      subst (λ (b : Asked). place_cmp (asked_at source t p) b ≡ Less) of.2 (lower_before (asked_at source t p) (asked_at source t of.0) refl (IsStrictlyIncreasing-first p parts of.0 h of.1))),
  part_order source t parts (IsStrictlyIncreasing-tail p parts h),
)

-- each run after the first starts where that ends, or later
pub runs_beyond : (a : Shown) (more : List Shown) → AreRuns (a ∷ more) → (s : Shown) → Contains more s → a.interval.end ≤ s.interval.start
runs_beyond a [] r s c = absurd (Contains-nil s c)
runs_beyond a (b ∷ more) r s c =
    elim (Contains-cons b more s c) [
      | inl same ↦ subst (λ (x : Shown). a.interval.end ≤ x.interval.start) same r.1
      | inr there ↦ let first = AreRuns-first b more r.3 in let beyond = runs_beyond b more r.3 s there in omega arith
    ]

-- what stands in a plan starts with its piece
starts_at : (source : List ℕ) (reported : List Reported) (a : Asked) → Contains (asked_in source reported) a → (t : Reported) × Contains reported t × Contains (asked_for source t) a × (a.1 ≡ t.interval)
starts_at source reported a c =
    let of = Contains-flat_map (asked_for source) reported a c in
    let at = Contains-map (asked_at source of.0) of.0.parts a of.2 in
    (of.0, of.1, of.2, ap (λ (b : Asked). b.1) (sym at.2))

pub in_order : (source : List ℕ) (reported : List Reported) → AreRuns (map shown_of reported) → All (λ t. IsStrictlyIncreasing t.parts) reported → IsStrictlySortedBy place_cmp (asked_in source reported)
unfolding IsStrictlySortedBy
in_order source [] r up = tt
in_order source (t ∷ reported) r up =
    sorted_append place_cmp (asked_for source t) (asked_in source reported) (part_order source t t.parts (All-head (λ t. IsStrictlyIncreasing t.parts) t reported up))
    (in_order source reported (AreRuns-rest (shown_of t) (map shown_of reported) r) (All-tail (λ t. IsStrictlyIncreasing t.parts) t reported up))
    (λ x y c d.
    let at = Contains-map (asked_at source t) t.parts x c in
    let of = starts_at source reported y d in
    let beyond = runs_beyond (shown_of t) (map shown_of reported) r (shown_of of.0) (Contains-map_back shown_of reported of.0 of.1) in
    let stretch = AreRuns-first (shown_of t) (map shown_of reported) r in
    let from : x.1.start ≡ t.interval.start = ap (λ (b : Asked). b.1.start) (sym at.2) in
    let to : y.1.start ≡ of.0.interval.start = ap (λ (e : Extent). e.start) of.3 in
    starts_before x y (omega arith))

-- ---- what is wanted

pub part_of : (source : List ℕ) (held : List Held) (reported : List Reported) → All (λ t. ArePartitions (members_of held t.group) t.parts) reported → (a : Asked)
    → Contains (asked_in source reported) a ↔ IsPart source held (map shown_of reported) a
part_of source held reported parts a = (
  λ c. let of = Contains-flat_map (asked_for source) reported a c in
      let at = Contains-map (asked_at source of.0) of.0.parts a of.2 in
      subst (IsPart source held (map shown_of reported)) at.2 (record {
        of_source = refl;
        shown = Contains-map_back shown_of reported of.0 of.1;
        member = ((All-contains (λ t. ArePartitions (members_of held t.group) t.parts) reported of.0 parts of.1).all at.0).0 at.1;
      }),
  λ w. let of = Contains-map shown_of reported (record { interval = a.1; group = group_of a.0 }) w.shown in
      let group : of.0.group ≡ group_of a.0 = ap (λ (s : Shown). s.group) of.2 in
      let interval : of.0.interval ≡ a.1 = ap (λ (s : Shown). s.interval) of.2 in
      let there = ((All-contains (λ t. ArePartitions (members_of held t.group) t.parts) reported of.0 parts of.1).all a.0.partition).1
      (subst (λ (g : Group). HasPartition (members_of held g) a.0.partition) (sym group) w.member) in
      let same : asked_at source of.0 a.0.partition ≡ a =
      λ i. (record { source = sym w.of_source i; interval = (group i).interval; version = (group i).version; partition = a.0.partition }, interval i) in
      subst (Contains (asked_in source reported)) same
      (Contains-flat_map_back (asked_for source) reported of.0 (asked_at source of.0 a.0.partition) of.1
      (Contains-map_back (asked_at source of.0) of.0.parts a.0.partition there)),
)

-- ---- replicas

pub served_new : (serving : Serving) (p : Pair) (a : Asked) (id : Identifier) (nodes : List ℕ) → p ≡ record { asked = a; nodes = nodes } → a.0 ≡ id → IsStrictlyIncreasing nodes
    → ((n : ℕ) → Contains nodes n ↔ ServesRows serving n id) → IsServedBy serving p
served_new serving p a id nodes e of up all =
    let each = subst (λ (x : Identifier). (n : ℕ) → Contains nodes n ↔ ServesRows serving n x) (sym of) all in
    subst (IsServedBy serving) (sym e) (record { rising = up; all = each })

pub same_id : (d : Described) (id : Identifier) → d.id.source ≡ id.source → group_of d.id ≡ group_of id → d.id.partition ≡ id.partition → d.id ≡ id
same_id d id s g p i = record { source = s i; interval = (g i).interval; version = (g i).version; partition = p i }

pub replicas_of : (inventory : List Entry) (serving : Serving) (source : List ℕ) → serving.source ≡ source → IsHoldingOf inventory source serving.held
    → (p : Pair) → p.asked.0.source ≡ source → IsServedBy serving p → AreReplicas inventory p.asked.0 p.nodes
replicas_of inventory serving source e held p of_source s = record {
  rising = s.rising;
  all = λ n. (
    λ c. let is = (s.all n).0 c in let h = is.1 in let from = (held h.0).0 h.1 in
        let node : n ≡ from.0 = sym h.4 ∙ ap (λ (x : Held). x.member.node) from.4 in
        let group : group_of from.1.id ≡ group_of p.asked.0 = ap (λ (x : Held). x.group) (sym from.4) ∙ h.2 in
        let partition : from.1.id.partition ≡ p.asked.0.partition = ap (λ (x : Held). x.member.partition) (sym from.4) ∙ h.3 in
        let rows : from.1.tombstone ≡ false = not-true from.1.tombstone (ap (λ (x : Held). x.member.serves) (sym from.4) ∙ h.5) in
        (from.1, subst (λ (k : ℕ). Serves inventory k from.1) (sym node) from.2, same_id from.1 p.asked.0 (from.3 ∙ sym of_source) group partition, rows),
    λ r. let d = r.0 in
        (s.all n).1 (
          of_source ∙ sym e,
          (
            held_of n d,
            (held (held_of n d)).1 (n, d, r.1, ap (λ (id : Identifier). id.source) r.2 ∙ of_source, refl),
            ap group_of r.2,
            ap (λ (id : Identifier). id.partition) r.2,
            refl,
            ap not r.3,
          ),
        ),
  );
}

-- ---- plans

pub nothing_sorted : (pairs : List Pair) → pairs ≡ [] → IsStrictlySortedBy place_cmp (asked_of pairs)
unfolding IsStrictlySortedBy
nothing_sorted pairs e = subst (λ (ps : List Pair). IsStrictlySortedBy place_cmp (asked_of ps)) (sym e) tt

pub pairs_sorted : (source : List ℕ) (held : List Held) (set : ℕ → Type 0) (reported : List Reported) (pairs : List Pair) → asked_of pairs ≡ asked_in source reported → ArePiecesIn set held (map shown_of reported)
    → All (λ t. ArePartitions (members_of held t.group) t.parts) reported → IsStrictlySortedBy place_cmp (asked_of pairs)
pairs_sorted source held set reported pairs e pieces parts =
    subst (IsStrictlySortedBy place_cmp) (sym e)
    (in_order source reported pieces.runs (All-weaker (λ (t : Reported). ArePartitions (members_of held t.group) t.parts) (λ t. IsStrictlyIncreasing t.parts) (λ t h. h.rising) reported parts))

nothing_visible : (t : ℕ) (g : Group) → IsVisible [] t g → ⊥
nothing_visible t g v = Contains-nil v.candidate.complete.some.0 v.candidate.complete.some.1

-- of a source that no node serves nothing is asked for
pub nothing_planned : (inventory : List Entry) (query : Query) (pairs : List Pair) → (HasSource inventory query.source → ⊥) → pairs ≡ [] → IsPlanOf inventory query pairs
nothing_planned inventory query pairs none e = subst (IsPlanOf inventory query) (sym e) (record {
  held = [];
  pieces = [];
  holding = λ x. (λ c. absurd (Contains-nil x c), λ h. absurd (none (h.0, h.1, h.2, h.3)));
  visible = record { runs = tt; shows = λ t g. (λ s. absurd s, λ v. absurd (nothing_visible t g v.1)) };
  paired = record {
    all = λ a. (λ c. absurd (Contains-nil a c), λ w. absurd (Contains-nil (record { interval = a.1; group = group_of a.0 }) w.shown));
    replicas = λ k d within. absurd (omega arith);
    ordered = nothing_sorted [] refl;
  };
})

any_same : (set intervals : List Extent) (held : List Held) (pieces : List Shown) → SameInstants set intervals → ArePiecesIn (AnyHas set) held pieces → ArePiecesIn (AnyHas intervals) held pieces
any_same set intervals held pieces same p = record {
  runs = p.runs;
  shows = λ t g. (λ s. let is = (p.shows t g).0 s in ((same t).0 is.0, is.1), λ v. (p.shows t g).1 ((same t).1 v.0, v.1));
}

-- ---- the pairs that some node serves

pub filter_sorted : (p : Pair → Bool) (ps : List Pair) → IsStrictlySortedBy place_cmp (asked_of ps) → IsStrictlySortedBy place_cmp (asked_of (filter p ps))
unfolding IsStrictlySortedBy
filter_sorted p [] s = tt
filter_sorted p (x ∷ xs) s = by (p x) (filter_sorted p xs s.1) where
  by : (b : Bool) → IsStrictlySortedBy place_cmp (asked_of (filter p xs)) → IsStrictlySortedBy place_cmp (asked_of (cond b (x ∷ filter p xs) (filter p xs)))
  by true rest = (
    each_less place_cmp x.asked (asked_of (filter p xs)) (λ y c.
        let of = Contains-map (λ (q : Pair). q.asked) (filter p xs) y c in
        subst (λ (a : Asked). place_cmp x.asked a ≡ Less) of.2
        (less_each place_cmp x.asked (asked_of xs) s.0 of.0.asked (Contains-map_back (λ (q : Pair). q.asked) xs of.0 (from_filter p xs of.0 of.1).0))),
    rest,
  )
  by false rest = rest

some_node : (nodes : List ℕ) → not (length nodes == 0) ≡ true → (n : ℕ) × Contains nodes n
some_node [] e = absurd (false≢true e)
some_node (n ∷ nodes) e = (n, (0, omega arith, refl))

some_nodes : (nodes : List ℕ) (n : ℕ) → Contains nodes n → not (length nodes == 0) ≡ true
some_nodes nodes n there = elim (cases_Bool (length nodes == 0)) [
  | inl none ↦ let empty : length nodes ≡ 0 = eqb-true (length nodes) 0 none in let below = there.1 in absurd (omega arith)
  | inr some ↦ ap not some
]

-- a node that has the rows of a segment serves its partition
rows_served : (held : List Held) (n : ℕ) (id : Identifier) → HasRows held n id → IsPartServed (members_of held (group_of id)) id.partition
rows_served held n id (h, there, group, partition, at_n, serves) = (
  h.member,
  Contains-map_back (λ (m : Held). m.member) (filter (λ m. same_group m.group (group_of id)) held) h
      (in_filter (λ m. same_group m.group (group_of id)) held h there (same_group-same h.group (group_of id) group)),
  partition,
  serves,
)

served_rows : (held : List Held) (id : Identifier) → IsPartServed (members_of held (group_of id)) id.partition → (n : ℕ) × HasRows held n id
served_rows held id (m, there, partition, serves) =
    let of = Contains-map (λ (h : Held). h.member) (filter (λ h. same_group h.group (group_of id)) held) m there in
    let kept = from_filter (λ h. same_group h.group (group_of id)) held of.0 of.1 in
    let same : of.0.member ≡ m = of.2 in (
      m.node,
      (
        of.0,
        kept.0,
        same_group-exact of.0.group (group_of id) kept.1,
        ap (λ (x : Member). x.partition) same ∙ partition,
        ap (λ (x : Member). x.node) same,
        ap (λ (x : Member). x.serves) same ∙ serves,
      ),
    )

pub planned : (inventory : List Entry) (query : Query) (serving : Serving) (source : List ℕ) (set : List Extent) (reported : List Reported) (all pairs : List Pair) → source ≡ query.source → serving.source ≡ source
    → IsHoldingOf inventory source serving.held → SameInstants set query.intervals → ArePiecesIn (AnyHas set) serving.held (map shown_of reported)
    → All (λ t. ArePartitions (members_of serving.held t.group) t.parts) reported → asked_of all ≡ asked_in source reported → All (IsServedBy serving) all → pairs ≡ filter has_nodes all → IsPlanOf inventory query pairs
planned inventory query serving source set reported all pairs s e holding instants pieces parts asked served kept = subst (IsPlanOf inventory query) (sym kept) (record {
  held = serving.held;
  pieces = map shown_of reported;
  holding = subst (λ (n : _). IsHoldingOf inventory n serving.held) s holding;
  visible = any_same set query.intervals serving.held (map shown_of reported) instants pieces;
  paired = record {
    all = λ a. subst (λ (n : _). Contains (asked_of (filter has_nodes all)) a ↔ IsWanted n serving.held (map shown_of reported) a) s (forth a, back a);
    replicas = each_replica;
    ordered = filter_sorted has_nodes all (pairs_sorted source serving.held (AnyHas set) reported all asked pieces parts);
  };
})
  where
    part : (a : Asked) → Contains (asked_of all) a → IsPart source serving.held (map shown_of reported) a
    part a there = (part_of source serving.held reported parts a).0 (subst (λ (xs : _). Contains xs a) asked there)

    in_all : (p : Pair) → Contains all p → Contains (asked_of all) p.asked
    in_all p there = Contains-map_back (λ (q : Pair). q.asked) all p there

    forth : (a : Asked) → Contains (asked_of (filter has_nodes all)) a → IsWanted source serving.held (map shown_of reported) a
    forth a there =
        let of = Contains-map (λ (q : Pair). q.asked) (filter has_nodes all) a there in
        let is = from_filter has_nodes all of.0 of.1 in
        let node = some_node of.0.nodes is.1 in
        let serves = ((All-contains (IsServedBy serving) all of.0 served is.0).all node.0).0 node.1 in
        let mine = part of.0.asked (in_all of.0 is.0) in
        subst (IsWanted source serving.held (map shown_of reported)) of.2 (record {
          of_source = mine.of_source;
          shown = mine.shown;
          served = rows_served serving.held node.0 of.0.asked.0 serves.1;
        })

    back : (a : Asked) → IsWanted source serving.held (map shown_of reported) a → Contains (asked_of (filter has_nodes all)) a
    back a w =
        let in_it = (part_of source serving.held reported parts a).1 (record { of_source = w.of_source; shown = w.shown; member = (w.served.0, w.served.1, w.served.2) }) in
        let of = Contains-map (λ (q : Pair). q.asked) all a (subst (λ (xs : _). Contains xs a) (sym asked) in_it) in
        let rows = served_rows serving.held a.0 w.served in
        let serves : ServesRows serving rows.0 of.0.asked.0 = subst (λ (b : Asked). ServesRows serving rows.0 b.0) (sym of.2) (w.of_source ∙ sym e, rows.1) in
        let node = ((All-contains (IsServedBy serving) all of.0 served of.1).all rows.0).1 serves in
        subst (Contains (asked_of (filter has_nodes all))) of.2
        (Contains-map_back (λ (q : Pair). q.asked) (filter has_nodes all) of.0 (in_filter has_nodes all of.0 of.1 (some_nodes of.0.nodes rows.0 node)))

    each_replica : All (λ p. AreReplicas inventory p.asked.0 p.nodes) (filter has_nodes all)
    each_replica = λ k d within.
        let p = get_or (filter has_nodes all) k d in
        let is = from_filter has_nodes all p (Contains-get_or (filter has_nodes all) k d within) in
        replicas_of inventory serving source e holding p (part p.asked (in_all p is.0)).of_source (All-contains (IsServedBy serving) all p served is.0)

-- ---- loops

pub one_more_asked : (source : List ℕ) (t : Reported) (old new : List Pair) (p : Pair) (front : List Asked) (k part d : ℕ) (parts : List ℕ) → parts ≡ t.parts → new ≡ old ++ p ∷ [] → p.asked ≡ asked_at source t part → k < length parts
    → part ≡ get_or parts k d → asked_of old ≡ front ++ map (asked_at source t) (take k t.parts) → asked_of new ≡ front ++ map (asked_at source t) (take (k + 1) t.parts)
one_more_asked source t old new p front k part d parts same e is within at so_far =
    let there : part ≡ get_or t.parts k d = at ∙ ap (λ (ps : List ℕ). get_or ps k d) same in
    let below : k < length t.parts = subst (λ (ps : List ℕ). k < length ps) same within in
    ap asked_of e ∙ map_push (λ (q : Pair). q.asked) old p ∙ ap (λ xs. xs ++ p.asked ∷ []) so_far ∙ append_assoc front (map (asked_at source t) (take k t.parts)) (p.asked ∷ [])
    ∙ ap (λ xs. front ++ xs) (ap (λ (a : Asked). map (asked_at source t) (take k t.parts) ++ a ∷ []) (is ∙ ap (asked_at source t) there)
    ∙ sym (map_more (asked_at source t) t.parts k d below))

pub one_more_piece : (source : List ℕ) (reported : List Reported) (old new : List Pair) (t : Reported) (k : ℕ) → k < length reported → t ≡ get_or reported k t → asked_of new ≡ asked_of old ++ asked_for source t
    → asked_of old ≡ asked_in source (take k reported) → asked_of new ≡ asked_in source (take (k + 1) reported)
one_more_piece source reported old new t k within at e so_far =
    e ∙ ap (λ xs. xs ++ asked_for source t) so_far ∙ ap (λ (u : Reported). asked_in source (take k reported) ++ asked_for source u) at
    ∙ more (get_or reported k t) ∙ ap (asked_in source) (sym (take_more reported k t within))
  where
    more : (u : Reported) → asked_in source (take k reported) ++ asked_for source u ≡ asked_in source (take k reported ++ u ∷ [])
    more u = flat_map_more (asked_for source) [] (take k reported) u

pub all_asked : (source : List ℕ) (t : Reported) (old : List Pair) (front : List Asked) (k : ℕ) (parts : List ℕ) → parts ≡ t.parts → length parts ≤ k
    → asked_of old ≡ front ++ map (asked_at source t) (take k t.parts) → asked_of old ≡ front ++ asked_for source t
all_asked source t old front k parts same within so_far =
    so_far ∙ ap (λ (ps : List ℕ). front ++ map (asked_at source t) ps) (take_all k t.parts (subst (λ (ps : List ℕ). length ps ≤ k) same within))
