-- Each lookup finds pieces.
use Rattle.std.proofs.Common.{◌≡◌, ℕ, ◌+◌, ◌-◌, ◌<◌, ◌≤◌, zero, suc, Bool, List, [], ◌∷◌, ◌++◌, map, filter, get_or, All, ◌⊎◌, ◌↔◌, inl, inr, refl, sym, ap, subst, ◌∙◌, arith}
use Rattle.std.specs.List.{Contains}
use Rattle.std.specs.List.Sorted.{IsStrictlyIncreasing}
use Rattle.std.specs.Str.{bytes_eq}
use Rattle.std.proofs.lemmas.Bool.{cases_lt, cases_eq, cases_order}
use Rattle.std.proofs.lemmas.Option.{same_Some, slice_get_within}
use Rattle.std.proofs.lemmas.Slice.Eq.{bytes_eq-Decides}
use Rattle.std.proofs.lemmas.List.Elements.{All-nil, All-cons, Contains-append_cases, Contains-append_left, Contains-append_right, Contains-get_or}
use Rattle.druid_time.specs.Extent.{Extent, Has}
use Rattle.druid_segment_id.specs.Group.{Group, same_group}
use Rattle.druid_segment_id.proofs.GroupLemmas.{Outranks-one_way}
use Rattle.druid_segment_descriptor.specs.Described.{Described}
use Rattle.druid_timeline_members.specs.Members.{Member, HasPartition}
use Rattle.druid_base.proofs.MemberLemmas.{Contains-cons, Contains-later, Contains-nil, Contains-map, Contains-map_back}
use Rattle.druid_timeline.specs.Holding.{Held, held_of, members_of}
use Rattle.druid_timeline.specs.Visible.{IsVisible}
use Rattle.druid_timeline.specs.Pieces.{Reported, Shown, shown_of, AreRuns, Shows, ArePiecesIn, ArePartitions}
use Rattle.druid_timeline_chunks.proofs.ChunkLemmas.{same_group-exact, same_group-same}
use Rattle.druid_timeline.proofs.RunsLemmas.{Shows-first, AreRuns-first}
use Rattle.druid_inventory.specs.Entry.{Entry}
use Rattle.druid_inventory.specs.Sources.{Serves, HasSource, IsHoldingOf}
use Rattle.druid_replay.specs.Execution.{IsFound}
use Rattle.druid_replay.proofs.OrderOnce.{by_number}
use Rattle.druid_timeline.proofs.HoldingLemmas.{in_filter, from_filter}
use Rattle.druid_timeline.proofs.VisibleLemmas.{visible_at}
use Rattle.druid_replay.proofs.Decided.{Decided, by_test}

-- ---- what is held of a source

abbrev IsOf : List ℕ → Described → Bool
IsOf source d = bytes_eq d.id.source source

-- held by the entries, of which the first is the node of this number
abbrev ServedFrom : ℕ → List Entry → List ℕ → Held → Type 0
ServedFrom from entries source x =
    (node : ℕ) × (d : Described) × Serves entries node d × (d.id.source ≡ source) × (x ≡ held_of (from + node) d)

abbrev HeldFrom : ℕ → List Entry → List ℕ → List Held → Type 0
HeldFrom from entries source held = (x : Held) → Contains held x ↔ ServedFrom from entries source x

abbrev own_held : ℕ → Entry → List ℕ → List Held
own_held from e source = map (held_of from) (filter (IsOf source) e.set)

held_first : (from : ℕ) (e : Entry) (es : List Entry) (source : List ℕ) (x : Held) → Contains (own_held from e source) x → ServedFrom from (e ∷ es) source x
held_first from e es source x there =
    let found = Contains-map (held_of from) (filter (IsOf source) e.set) x there in
    let inside = from_filter (IsOf source) e.set found.0 found.1 in
    let same : from + 0 ≡ from = omega arith in
    (0, found.0, (e, refl, inside.0), (bytes_eq-Decides found.0.id.source source).0 inside.1, sym found.2 ∙ ap (λ (n : ℕ). held_of n found.0) (sym same))

held_back : (from : ℕ) (e : Entry) (es : List Entry) (source : List ℕ) (rest : List Held) (x : Held) → HeldFrom (from + 1) es source rest → ServedFrom from (e ∷ es) source x → Contains (own_held from e source ++ rest) x
held_back from e es source rest x holds (zero, d, serves, of_source, is) =
    let mine : Contains e.set d = subst (λ (y : Entry). Contains y.set d) (sym (same_Some e serves.0 serves.1)) serves.2 in
    let same : from + 0 ≡ from = omega arith in
    let kept = in_filter (IsOf source) e.set d mine ((bytes_eq-Decides d.id.source source).1 of_source) in
    let there = Contains-map_back (held_of from) (filter (IsOf source) e.set) d kept in
    Contains-append_left (own_held from e source) rest x (subst (Contains (own_held from e source)) (sym (is ∙ ap (λ (n : ℕ). held_of n d) same)) there)
held_back from e es source rest x holds (suc node, d, serves, of_source, is) =
    let same : from + suc node ≡ from + 1 + node = omega arith in
    Contains-append_right (own_held from e source) rest x ((holds x).1 (node, d, serves, of_source, is ∙ ap (λ (n : ℕ). held_of n d) same))

held_from : (from : ℕ) (entries : List Entry) (source : List ℕ) → (held : List Held) × HeldFrom from entries source held
held_from from [] source =
    ([], λ x. (λ there. absurd (Contains-nil x there), λ h. absurd (omega (arith, slice_get_within [] h.0 h.2.0 h.2.1))))
held_from from (e ∷ es) source =
    let rest = held_from (from + 1) es source in
    (own_held from e source ++ rest.0, λ x. (forth rest.0 rest.1 x, held_back from e es source rest.0 x rest.1)) where
      forth : (rest : List Held) → HeldFrom (from + 1) es source rest → (x : Held) → Contains (own_held from e source ++ rest) x → ServedFrom from (e ∷ es) source x
      forth rest holds x there =
          elim (Contains-append_cases (own_held from e source) rest x there) [
            | inl here ↦ held_first from e es source x here
            | inr later ↦
                let h = (holds x).0 later in
                let same : from + 1 + h.0 ≡ from + suc h.0 = omega arith in
                (suc h.0, h.1, h.2, h.3, h.4 ∙ ap (λ (n : ℕ). held_of n h.1) same)
          ]

holding : (inventory : List Entry) (source : List ℕ) → (held : List Held) × IsHoldingOf inventory source held
holding inventory source =
    let all = held_from 0 inventory source in (
      all.0,
      λ x. (
        λ there. let h = (all.1 x).0 there in let same : 0 + h.0 ≡ h.0 = omega arith in (h.0, h.1, h.2, h.3, h.4 ∙ ap (λ (n : ℕ). held_of n h.1) same),
        λ h. let same : h.0 ≡ 0 + h.0 = omega arith in (all.1 x).1 (h.0, h.1, h.2, h.3, h.4 ∙ ap (λ (n : ℕ). held_of n h.1) same),
      ),
    )

has_source : (inventory : List Entry) (source : List ℕ) (held : List Held) → IsHoldingOf inventory source held → Decided (HasSource inventory source)
has_source inventory source [] holds =
    inr (λ h. Contains-nil (held_of h.0 h.1) ((holds (held_of h.0 h.1)).1 (h.0, h.1, h.2, h.3, refl)))
has_source inventory source (x ∷ xs) holds =
    let h = (holds x).0 (0, omega arith, refl) in
    inl (h.0, h.1, h.2, h.3)

-- ---- which chunk is visible

one_visible : (held : List Held) (t : ℕ) (g h : Group) → IsVisible held t g → IsVisible held t h → g ≡ h
one_visible held t g h vg vh =
    elim (vg.greatest h vh.candidate) [
      | inl same ↦ sym same
      | inr above ↦ elim (vh.greatest g vg.candidate) [
        | inl same ↦ same
        | inr below ↦ absurd (Outranks-one_way g h above below)
      ]
    ]

-- ---- pieces, an instant at a time

group_decided : (g h : Group) → Decided (g ≡ h)
group_decided g h = by_test (g ≡ h) (same_group g h) (same_group-exact g h) (same_group-same g h)

-- runs that show one chunk at one instant more
abbrev Grown : ℕ → Group → List Shown → Type 0
Grown from g ps =
    (new : List Shown) × AreRuns new × ((t : ℕ) (k : Group) → Shows new t k ↔ (((g ≡ k) × (t ≡ from)) ⊎ Shows ps t k))

abbrev instant_of : ℕ → Group → Shown
instant_of from g = record { interval = record { start = from; end = from + 1 }; group = g }

instant_shows : (from : ℕ) (g : Group) (ps : List Shown) (t : ℕ) (k : Group) → Shows (instant_of from g ∷ ps) t k ↔ (((g ≡ k) × (t ≡ from)) ⊎ Shows ps t k)
instant_shows from g ps t k = (forth, back) where
  forth : Shows (instant_of from g ∷ ps) t k → ((g ≡ k) × (t ≡ from)) ⊎ Shows ps t k
  forth (inl here) =
      let low : from ≤ t = here.1.0 in
      let high : t < from + 1 = here.1.1 in
      inl (here.0, omega (arith, low, high))
  forth (inr later) = inr later

  back : ((g ≡ k) × (t ≡ from)) ⊎ Shows ps t k → Shows (instant_of from g ∷ ps) t k
  back (inl here) = let at = here.1 in inl (here.0, (omega (arith, at), omega (arith, at)))
  back (inr later) = inr later

abbrev longer : ℕ → Shown → Shown
longer from p = record { interval = record { start = from; end = p.interval.end }; group = p.group }

longer_runs : (from : ℕ) (p : Shown) (more : List Shown) → from < p.interval.end → AreRuns (p ∷ more) → AreRuns (longer from p ∷ more)
longer_runs from p [] l h = l
longer_runs from p (q ∷ more) l h = (l, h.1, h.2, h.3)

longer_shows : (from : ℕ) (g : Group) (p : Shown) (more : List Shown) (t : ℕ) (k : Group) → p.interval.start ≡ from + 1 → p.interval.start < p.interval.end → g ≡ p.group
    → Shows (longer from p ∷ more) t k ↔ (((g ≡ k) × (t ≡ from)) ⊎ Shows (p ∷ more) t k)
longer_shows from g p more t k start stretch same = (forth, back) where
  forth : Shows (longer from p ∷ more) t k → ((g ≡ k) × (t ≡ from)) ⊎ Shows (p ∷ more) t k
  forth (inl here) =
      let low : from ≤ t = here.1.0 in
      elim (cases_eq t from) [
        | inl at ↦ inl (same ∙ here.0, at)
        | inr other ↦ inr (inl (here.0, (omega (arith, low, other, start), here.1.1)))
      ]
  forth (inr later) = inr (inr later)

  back : ((g ≡ k) × (t ≡ from)) ⊎ Shows (p ∷ more) t k → Shows (longer from p ∷ more) t k
  back (inl here) =
      let at = here.1 in
      inl (sym same ∙ here.0, (omega (arith, at), omega (arith, at, start, stretch)))
  back (inr (inl here)) =
      let low : p.interval.start ≤ t = here.1.0 in
      inl (here.0, (omega (arith, low, start), here.1.1))
  back (inr (inr later)) = inr later

grown : (from : ℕ) (g : Group) (ps : List Shown) → AreRuns ps → ((t : ℕ) (k : Group) → Shows ps t k → from < t) → Grown from g ps
grown from g [] runs beyond = (instant_of from g ∷ [], omega arith, instant_shows from g [])
grown from g (p ∷ more) runs beyond =
    by (cases_eq p.interval.start (from + 1)) (group_decided g p.group) where
      after : from < p.interval.start
      after = beyond p.interval.start p.group (Shows-first p more runs)

      stretch : p.interval.start < p.interval.end
      stretch = AreRuns-first p more runs

      by : (p.interval.start ≡ from + 1) ⊎ (p.interval.start ≡ from + 1 → ⊥) → Decided (g ≡ p.group) → Grown from g (p ∷ more)
      by (inl start) (inl same) =
          (longer from p ∷ more, longer_runs from p more (omega (arith, after, stretch)) runs, λ t k. longer_shows from g p more t k start stretch same)
      by (inl start) (inr other) =
          (instant_of from g ∷ p ∷ more, (omega arith, omega (arith, after), λ _. other, runs), instant_shows from g (p ∷ more))
      by (inr gap) same =
          (instant_of from g ∷ p ∷ more, (omega arith, omega (arith, after), λ e. absurd (gap (sym e)), runs), instant_shows from g (p ∷ more))

abbrev span : ℕ → ℕ → Extent
span from to = record { start = from; end = to }

abbrev PiecesOn : List Held → ℕ → ℕ → Type 0
PiecesOn held from to = (ps : List Shown) × ArePiecesIn (Has (span from to)) held ps

nothing_at : (held : List Held) (from to : ℕ) → ((g : Group) → IsVisible held from g → ⊥) → PiecesOn held (from + 1) to → PiecesOn held from to
nothing_at held from to none (ps, h) = (
  ps,
  record {
    runs = h.runs;
    shows = λ t g. (
      λ s. let at = (h.shows t g).0 s in let low : from + 1 ≤ t = at.0.0 in ((omega (arith, low), at.0.1), at.1),
      λ v. let low : from ≤ t = v.0.0 in elim (cases_eq t from) [
        | inl at ↦ absurd (none g (subst (λ (u : ℕ). IsVisible held u g) at v.1))
        | inr other ↦ (h.shows t g).1 ((omega (arith, low, other), v.0.1), v.1)
      ],
    );
  },
)

one_at : (held : List Held) (from to : ℕ) (g : Group) → from < to → IsVisible held from g → PiecesOn held (from + 1) to → PiecesOn held from to
one_at held from to g l v (ps, h) = whole (grown from g ps h.runs (λ t k s. let at = (h.shows t k).0 s in let low : from + 1 ≤ t = at.0.0 in omega (arith, low))) where
  forth : (t : ℕ) (k : Group) → ((g ≡ k) × (t ≡ from)) ⊎ Shows ps t k → Has (span from to) t × IsVisible held t k
  forth t k (inl here) =
      let at = here.1 in
      ((omega (arith, at), omega (arith, at, l)), subst (IsVisible held t) here.0 (subst (λ (u : ℕ). IsVisible held u g) (sym at) v))
  forth t k (inr later) =
      let at = (h.shows t k).0 later in
      let low : from + 1 ≤ t = at.0.0 in
      ((omega (arith, low), at.0.1), at.1)

  back : (t : ℕ) (k : Group) → Has (span from to) t → IsVisible held t k → ((g ≡ k) × (t ≡ from)) ⊎ Shows ps t k
  back t k has w =
      let low : from ≤ t = has.0 in
      elim (cases_eq t from) [
        | inl at ↦ inl (one_visible held from g k v (subst (λ (u : ℕ). IsVisible held u k) at w), at)
        | inr other ↦ inr ((h.shows t k).1 ((omega (arith, low, other), has.1), w))
      ]

  whole : Grown from g ps → PiecesOn held from to
  whole new = (
    new.0,
    record {
      runs = new.1;
      shows = λ t k. (λ s. forth t k ((new.2 t k).0 s), λ w. (new.2 t k).1 (back t k w.0 w.1));
    },
  )

nothing_shown : (held : List Held) (from to : ℕ) → to ≤ from → PiecesOn held from to
nothing_shown held from to l = (
  [],
  record {
    runs = tt;
    shows = λ t g. (λ s. absurd s, λ v. let low : from ≤ t = v.0.0 in let high : t < to = v.0.1 in absurd (omega (arith, low, high, l)));
  },
)

pieces_on : (held : List Held) (to n from : ℕ) → from + n ≡ to → PiecesOn held from to
pieces_on held to zero from e = nothing_shown held from to (omega (arith, e))
pieces_on held to (suc n) from e =
    let rest = pieces_on held to n (from + 1) (omega (arith, e)) in
    elim (visible_at held from) [
      | inl at ↦ one_at held from to at.0 (omega (arith, e)) at.1 rest
      | inr none ↦ nothing_at held from to (λ g v. none g v.candidate) rest
    ]

pieces_in : (held : List Held) (asked : Extent) → PiecesOn held asked.start asked.end
pieces_in held asked =
    elim (cases_lt asked.end asked.start) [
      | inl none ↦ nothing_shown held asked.start asked.end (omega (arith, none))
      | inr some ↦ pieces_on held asked.end (asked.end - asked.start) asked.start (omega (arith, some))
    ]

-- ---- partitions

rising_cons : (y : ℕ) (zs : List ℕ) → IsStrictlyIncreasing zs → ((d : ℕ) → Contains zs d → y < d) → IsStrictlyIncreasing (y ∷ zs)
rising_cons y zs h before zero l = before (get_or zs 0 0) (Contains-get_or zs 0 0 (omega (arith, l)))
rising_cons y zs h before (suc k) l =
    let e : suc k + 1 ≡ suc (k + 1) = omega arith in
    let next : get_or zs k 0 < get_or zs (k + 1) 0 = h k (omega (arith, l)) in
    rw e next

rising_nil : IsStrictlyIncreasing []
rising_nil k l = absurd (omega (arith, l))

abbrev WithOne : ℕ → List ℕ → Type 0
WithOne n xs = (ys : List ℕ) × IsStrictlyIncreasing ys × ((p : ℕ) → Contains ys p ↔ ((p ≡ n) ⊎ Contains xs p))

onto : (n : ℕ) (xs : List ℕ) (p : ℕ) → Contains (n ∷ xs) p ↔ ((p ≡ n) ⊎ Contains xs p)
onto n xs p = (λ there. forth (Contains-cons n xs p there), back) where
  forth : (n ≡ p) ⊎ Contains xs p → (p ≡ n) ⊎ Contains xs p
  forth (inl here) = inl (sym here)
  forth (inr later) = inr later

  back : (p ≡ n) ⊎ Contains xs p → Contains (n ∷ xs) p
  back (inl here) = (0, omega arith, sym here)
  back (inr later) = Contains-later n xs p later

with_one : (n : ℕ) (xs : List ℕ) → IsStrictlyIncreasing xs → WithOne n xs
with_one n [] h = (n ∷ [], rising_cons n [] h (λ d there. absurd (Contains-nil d there)), onto n [])
with_one n (x ∷ xs) h = by (cases_order n x) (with_one n xs (by_number.tail x xs h)) where
  by : (n ≡ x) ⊎ ((n < x) ⊎ (x < n)) → WithOne n xs → WithOne n (x ∷ xs)
  by (inl level) rest = (x ∷ xs, h, λ p. (λ there. inr there, either p)) where
    either : (p : ℕ) → (p ≡ n) ⊎ Contains (x ∷ xs) p → Contains (x ∷ xs) p
    either p (inl same) = (0, omega arith, sym level ∙ sym same)
    either p (inr there) = there
  by (inr (inl below)) rest = (n ∷ x ∷ xs, rising_cons n (x ∷ xs) h ahead, onto n (x ∷ xs)) where
    ahead : (d : ℕ) → Contains (x ∷ xs) d → n < d
    ahead d there = elim (Contains-cons x xs d there) [
      | inl here ↦ omega (arith, below, here)
      | inr later ↦ let up : x < d = by_number.later x xs d h later in omega (arith, below, up)
    ]
  by (inr (inr above)) rest = (x ∷ rest.0, rising_cons x rest.0 rest.1 beyond, λ p. (forth p, back p)) where
    beyond : (d : ℕ) → Contains rest.0 d → x < d
    beyond d there = elim ((rest.2 d).0 there) [
      | inl same ↦ omega (arith, above, same)
      | inr later ↦ by_number.later x xs d h later
    ]

    forth : (p : ℕ) → Contains (x ∷ rest.0) p → (p ≡ n) ⊎ Contains (x ∷ xs) p
    forth p there = elim (Contains-cons x rest.0 p there) [
      | inl here ↦ inr (0, omega arith, here)
      | inr later ↦ elim ((rest.2 p).0 later) [ inl same ↦ inl same | inr inside ↦ inr (Contains-later x xs p inside) ]
    ]

    back : (p : ℕ) → (p ≡ n) ⊎ Contains (x ∷ xs) p → Contains (x ∷ rest.0) p
    back p (inl same) = Contains-later x rest.0 p ((rest.2 p).1 (inl same))
    back p (inr there) = elim (Contains-cons x xs p there) [
      | inl here ↦ (0, omega arith, here)
      | inr later ↦ Contains-later x rest.0 p ((rest.2 p).1 (inr later))
    ]

partitions : (ms : List Member) → (parts : List ℕ) × ArePartitions ms parts
partitions [] = (
  [],
  record {
    rising = rising_nil;
    all = λ p. (λ there. absurd (Contains-nil p there), λ h. absurd (Contains-nil h.0 h.1));
  },
)
partitions (m ∷ ms) =
    let rest = partitions ms in
    let new = with_one m.partition rest.0 rest.1.rising in (
      new.0,
      record {
        rising = new.1;
        all = λ p. (λ there. forth rest.0 rest.1 p ((new.2 p).0 there), λ h. (new.2 p).1 (back rest.0 rest.1 p h (Contains-cons m ms h.0 h.1)));
      },
    ) where
      forth : (parts : List ℕ) → ArePartitions ms parts → (p : ℕ) → (p ≡ m.partition) ⊎ Contains parts p → HasPartition (m ∷ ms) p
      forth parts are p (inl same) = (m, (0, omega arith, refl), sym same)
      forth parts are p (inr later) = let h = (are.all p).0 later in (h.0, Contains-later m ms h.0 h.1, h.2)

      back : (parts : List ℕ) → ArePartitions ms parts → (p : ℕ) → (h : HasPartition (m ∷ ms) p) → (m ≡ h.0) ⊎ Contains ms h.0 → (p ≡ m.partition) ⊎ Contains parts p
      back parts are p h (inl here) = inl (sym h.2 ∙ sym (ap (λ (x : Member). x.partition) here))
      back parts are p h (inr later) = inr ((are.all p).1 (h.0, later, h.2))

abbrev HasParts : List Held → Reported → Type 0
HasParts held piece = ArePartitions (members_of held piece.group) piece.parts

reported : (held : List Held) (ps : List Shown) → (pieces : List Reported) × (map shown_of pieces ≡ ps) × All (HasParts held) pieces
reported held [] = ([], refl, All-nil (HasParts held))
reported held (p ∷ ps) =
    let rest = reported held ps in
    let parts = partitions (members_of held p.group) in
    let one : Reported = record { interval = p.interval; group = p.group; parts = parts.0 } in
    (one ∷ rest.0, ap (λ (qs : List Shown). p ∷ qs) rest.1, All-cons (HasParts held) one rest.0 parts.1 rest.2)

-- each lookup finds pieces
pub found_some : (inventory : List Entry) (source : List ℕ) (asked : Extent) → (pieces : List Reported) × IsFound inventory source asked pieces
found_some inventory source asked =
    let all = holding inventory source in
    by all.0 all.1 (has_source inventory source all.0 all.1) where
      by : (held : List Held) → IsHoldingOf inventory source held → Decided (HasSource inventory source) → (pieces : List Reported) × IsFound inventory source asked pieces
      by held holds (inr none) = ([], inl (none, refl))
      by held holds (inl some) =
          let shown = pieces_in held asked in
          let pieces = reported held shown.0 in (
            pieces.0,
            inr (
              some,
              held,
              holds,
              record {
                shown = subst (ArePiecesIn (Has asked) held) (sym pieces.1) shown.1;
                parts = pieces.2;
              },
            ),
          )
