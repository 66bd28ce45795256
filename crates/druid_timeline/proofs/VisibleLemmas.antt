-- Whether a chunk is visible at an instant.
use Rattle.std.proofs.Common.{◌≡◌, ℕ, ◌<◌, ◌≤◌, zero, suc, List, [], ◌∷◌, map, filter, ◌⊎◌, inl, inr, refl, sym, ap, subst, ◌∙◌, arith}
use Rattle.std.specs.List.{Contains}
use Rattle.std.proofs.lemmas.Bool.{cases_lt, cases_eq}
use Rattle.druid_time.specs.Extent.{Extent, Has}
use Rattle.druid_segment_id.specs.Group.{Group, same_group, Outranks}
use Rattle.druid_segment_id.proofs.GroupLemmas.{Outranks-cases, Outranks-onward}
use Rattle.druid_timeline_members.specs.Members.{Member, HasPartition, IsComplete, core_count}
use Rattle.druid_base.proofs.MemberLemmas.{Contains-cons, Contains-later, Contains-nil, Contains-map, Contains-map_back}
use Rattle.druid_timeline_chunks.proofs.ChunkLemmas.{same_group-exact}
use Rattle.druid_timeline.specs.Holding.{Held, members_of}
use Rattle.druid_timeline.specs.Pieces.{Shown, Shows, ArePieces}
use Rattle.druid_timeline.specs.Visible.{IsCandidate, IsVisible, NothingVisible}
use Rattle.druid_timeline.proofs.HoldingLemmas.{from_filter}

-- it is so, or it is not
abbrev Decided : Type 0 → Type 0
Decided P = P ⊎ (P → ⊥)

has_partition : (ms : List Member) (p : ℕ) → Decided (HasPartition ms p)
has_partition [] p = inr (λ h. Contains-nil h.0 h.1)
has_partition (m ∷ ms) p = by (cases_eq m.partition p) (has_partition ms p) where
  by : (m.partition ≡ p) ⊎ (m.partition ≡ p → ⊥) → Decided (HasPartition ms p) → Decided (HasPartition (m ∷ ms) p)
  by (inl here) rest = inl (m, (0, omega arith, refl), here)
  by (inr other) (inl rest) = inl (rest.0, Contains-later m ms rest.0 rest.1, rest.2)
  by (inr other) (inr none) = inr (λ h. neither h (Contains-cons m ms h.0 h.1)) where
    neither : (h : HasPartition (m ∷ ms) p) → (m ≡ h.0) ⊎ Contains ms h.0 → ⊥
    neither h (inl here) = other (ap (λ (x : Member). x.partition) here ∙ h.2)
    neither h (inr later) = none (h.0, later, h.2)

below_all : (P : ℕ → Type 0) → ((p : ℕ) → Decided (P p)) → (n : ℕ) → Decided ((p : ℕ) → p < n → P p)
below_all P each zero = inl (λ p l. absurd (omega (arith, l)))
below_all P each (suc n) = by (each n) (below_all P each n) where
  by : Decided (P n) → Decided ((p : ℕ) → p < n → P p) → Decided ((p : ℕ) → p < suc n → P p)
  by (inl here) (inl rest) =
      inl (λ p l. elim (cases_eq p n) [ inl level ↦ subst P (sym level) here | inr other ↦ rest p (omega (arith, l, other)) ])
  by (inl here) (inr none) = inr (λ all. none (λ p l. all p (omega (arith, l))))
  by (inr none) rest = inr (λ all. none (all n (omega arith)))

complete_decided : (ms : List Member) → Decided (IsComplete ms)
complete_decided [] = inr (λ whole. Contains-nil whole.some.0 whole.some.1)
complete_decided (m ∷ ms) = by (below_all (HasPartition (m ∷ ms)) (has_partition (m ∷ ms)) (core_count (m ∷ ms))) where
  by : Decided ((p : ℕ) → p < core_count (m ∷ ms) → HasPartition (m ∷ ms) p) → Decided (IsComplete (m ∷ ms))
  by (inl all) = inl (record { some = (m, (0, omega arith, refl)); cores = all })
  by (inr none) = inr (λ whole. none whole.cores)

has_decided : (e : Extent) (t : ℕ) → Decided (Has e t)
has_decided e t = by (cases_lt t e.start) (cases_lt t e.end) where
  by : (t < e.start) ⊎ (e.start ≤ t) → (t < e.end) ⊎ (e.end ≤ t) → Decided (Has e t)
  by (inl early) ends = inr (λ h. absurd (omega (arith, h.0, early)))
  by (inr from) (inl to) = inl (from, to)
  by (inr from) (inr late) = inr (λ h. absurd (omega (arith, h.1, late)))

candidate_decided : (held : List Held) (t : ℕ) (g : Group) → Decided (IsCandidate held t g)
candidate_decided held t g = by (complete_decided (members_of held g)) (has_decided g.interval t) where
  by : Decided (IsComplete (members_of held g)) → Decided (Has g.interval t) → Decided (IsCandidate held t g)
  by (inl whole) (inl has) = inl (record { complete = whole; has = has })
  by (inl whole) (inr none) = inr (λ c. none c.has)
  by (inr none) has = inr (λ c. none c.complete)

abbrev BestAmong : List Held → ℕ → List Group → Type 0
BestAmong held t gs =
    (g : Group) × IsCandidate held t g
    × ((other : Group) → Contains gs other → IsCandidate held t other → (other ≡ g) ⊎ Outranks g other)

abbrev NoneAmong : List Held → ℕ → List Group → Type 0
NoneAmong held t gs = (g : Group) → Contains gs g → IsCandidate held t g → ⊥

best_among : (held : List Held) (t : ℕ) (gs : List Group) → BestAmong held t gs ⊎ NoneAmong held t gs
best_among held t [] = inr (λ g there c. Contains-nil g there)
best_among held t (h ∷ gs) = by (candidate_decided held t h) (best_among held t gs) where
  ranked : IsCandidate held t h → (best : BestAmong held t gs) → Outranks h best.0 ⊎ (h ≡ best.0) ⊎ Outranks best.0 h → BestAmong held t (h ∷ gs)
  ranked c best (inl above) = (
    h,
    c,
    λ other there d. elim (Contains-cons h gs other there) [
      | inl here ↦ inl (sym here)
      | inr later ↦ elim (best.2 other later d) [
        | inl is ↦ inr (subst (Outranks h) (sym is) above)
        | inr below ↦ inr (Outranks-onward h best.0 other above below)
      ]
    ],
  )
  ranked c best (inr (inl same)) = (
    best.0,
    best.1,
    λ other there d. elim (Contains-cons h gs other there) [
      | inl here ↦ inl (sym here ∙ same)
      | inr later ↦ best.2 other later d
    ],
  )
  ranked c best (inr (inr below)) = (
    best.0,
    best.1,
    λ other there d. elim (Contains-cons h gs other there) [
      | inl here ↦ inr (subst (Outranks best.0) here below)
      | inr later ↦ best.2 other later d
    ],
  )

  by : Decided (IsCandidate held t h) → BestAmong held t gs ⊎ NoneAmong held t gs → BestAmong held t (h ∷ gs) ⊎ NoneAmong held t (h ∷ gs)
  by (inl c) (inl best) = inl (ranked c best (Outranks-cases h best.0))
  by (inl c) (inr none) = inl (
    h,
    c,
    λ other there d. elim (Contains-cons h gs other there) [
      | inl here ↦ inl (sym here)
      | inr later ↦ absurd (none other later d)
    ],
  )
  by (inr bad) (inl best) = inl (
    best.0,
    best.1,
    λ other there d. elim (Contains-cons h gs other there) [
      | inl here ↦ absurd (bad (subst (IsCandidate held t) (sym here) d))
      | inr later ↦ best.2 other later d
    ],
  )
  by (inr bad) (inr none) = inr (λ other there d. elim (Contains-cons h gs other there) [
    | inl here ↦ bad (subst (IsCandidate held t) (sym here) d)
    | inr later ↦ none other later d
  ])

among_groups : (held : List Held) (t : ℕ) (g : Group) → IsCandidate held t g → Contains (map (λ (h : Held). h.group) held) g
among_groups held t g c =
    let one = c.complete.some in
    let found = Contains-map (λ (h : Held). h.member) (filter (λ (h : Held). same_group h.group g) held) one.0 one.1 in
    let inside = from_filter (λ (h : Held). same_group h.group g) held found.0 found.1 in
    subst (Contains (map (λ (h : Held). h.group) held)) (same_group-exact found.0.group g inside.1) (Contains-map_back (λ (h : Held). h.group) held found.0 inside.0)

-- a chunk is visible, or no chunk is a candidate
pub visible_at : (held : List Held) (t : ℕ) → ((g : Group) × IsVisible held t g) ⊎ NothingVisible held t
visible_at held t =
    elim (best_among held t (map (λ (h : Held). h.group) held)) [
      | inl best ↦ inl (best.0, record { candidate = best.1; greatest = λ other c. best.2 other (among_groups held t other c) c })
      | inr none ↦ inr (λ g c. none g (among_groups held t g c) c)
    ]

-- where the pieces show nothing, no chunk is a candidate
pub nothing_shown : (held : List Held) (ps : List Shown) (t : ℕ) → ArePieces held ps → ((g : Group) → Shows ps t g → ⊥) → NothingVisible held t
nothing_shown held ps t h none = elim (visible_at held t) [
  | inl seen ↦ absurd (none seen.0 ((h.shows t seen.0).1 (tt, seen.1)))
  | inr nothing ↦ nothing
]
