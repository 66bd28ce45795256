-- How many pieces lie in the interval of a chunk that is not complete: each starts where another chunk starts or ends.
use Rattle.std.proofs.Common.{◌≡◌, ◌+◌, ◌*◌, ◌-◌, ◌<◌, ◌≤◌, ◌⊎◌, ◌++◌, ℕ, suc, false, eqb, List, [], ◌∷◌, length, map, refl, sym, ap, subst, inl, inr, arith}
use Rattle.std.specs.Cmp.{nat_eq_equiv}
use Rattle.std.specs.List.{Contains, IsDistinct, AllByRecursion, filter_map}
use Rattle.std.proofs.lemmas.Bool.{cases_lt, cases_eq, ne_eqb, eqb-true, eq-eqb}
use Rattle.std.proofs.lemmas.List.{append-nil, length-append, length-map}
use Rattle.std.proofs.lemmas.List.Elements.{Contains-append_left, Contains-append_right}
use Rattle.std.proofs.lemmas.Map.Keys.{IsDistinct-cons}
use Rattle.std.proofs.lemmas.Map.Made.{length-le_from_is_member, is_member-Decides}
use Rattle.druid_time.specs.Extent.{Extent, Has}
use Rattle.druid_segment_id.specs.Group.{Group, Outranks}
use Rattle.druid_segment_id.proofs.GroupLemmas.{Outranks-one_way}
use Rattle.druid_base.proofs.MemberLemmas.{Contains-nil, Contains-cons, Contains-later, Contains-map, Contains-map_back}
use Rattle.druid_timeline.specs.Edited.{HasOthers}
use Rattle.druid_timeline.specs.Holding.{Held, IsCompleteIn}
use Rattle.druid_timeline.specs.Pieces.{Shown, AreRuns, ArePieces, Shows, cut, cut_piece}
use Rattle.druid_timeline.specs.Visible.{IsVisible, NothingVisible}
use Rattle.druid_timeline.proofs.CutLemmas.{AreRuns-cut, Shows-cut}
use Rattle.druid_timeline.proofs.RunsLemmas.{AreRuns-first, AreRuns-rest, Shows-start, Shows-from_start, Shows-beyond, Shows-at_end, ArePiecesIn-one_list}
use Rattle.druid_timeline.proofs.VisibleLemmas.{visible_at}

-- ---- starts of runs

-- before a run starts, its chunk is not shown
starts_fresh : (qs : List Shown) → AreRuns qs → (s : Shown) → Contains qs s → (t : ℕ) → suc t ≡ s.interval.start → Shows qs t s.group → ⊥
starts_fresh [] runs s there t at shown = Contains-nil s there
starts_fresh (a ∷ qs) runs s there t at shown = elim (Contains-cons a qs s there) [
  | inl same ↦
      let from = Shows-from_start a qs t s.group runs shown in
      let e = ap (λ (x : Shown). x.interval.start) same in
      omega (arith, from, at, e)
  | inr later ↦ by_place later (λ more. starts_fresh qs (AreRuns-rest a qs runs) s later t at more) shown
] where
  by_place : Contains qs s → (Shows qs t s.group → ⊥) → Shows (a ∷ qs) t s.group → ⊥
  by_place later rest (inl here) =
      let own = Shows-start qs s (AreRuns-rest a qs runs) later in
      let beyond = Shows-beyond a qs s.interval.start s.group runs own in
      let stops : t < a.interval.end = here.1.1 in
      let e : s.interval.start ≡ a.interval.end = omega (arith, beyond, stops, at) in
      Shows-at_end a qs s.group runs (subst (λ (u : ℕ). Shows qs u s.group) e own) here.0
  by_place later rest (inr more) = rest more

abbrev start_of : Shown → ℕ
start_of s = s.interval.start

none_equal : (n : ℕ) (xs : List Shown) → ((s : Shown) → Contains xs s → n < s.interval.start) → AllByRecursion (λ (u : ℕ). eqb n u ≡ false) (map start_of xs)
none_equal n [] each = tt
none_equal n (x ∷ xs) each = (
  ne_eqb n x.interval.start (λ same. let l = each x (0, omega arith, refl) in omega (arith, l, same)),
  none_equal n xs (λ s there. each s (Contains-later x xs s there)),
)

no_starts : IsDistinct eqb []
unfolding IsDistinct
no_starts = tt

starts_apart : (qs : List Shown) → AreRuns qs → IsDistinct eqb (map start_of qs)
starts_apart [] runs = no_starts
starts_apart (a ∷ qs) runs = IsDistinct-cons eqb a.interval.start (map start_of qs) (none_equal a.interval.start qs after) (starts_apart qs (AreRuns-rest a qs runs)) where
  after : (s : Shown) → Contains qs s → a.interval.start < s.interval.start
  after s there =
      let st : a.interval.start < a.interval.end = AreRuns-first a qs runs in
      let beyond = Shows-beyond a qs s.interval.start s.group runs (Shows-start qs s (AreRuns-rest a qs runs) there) in
      omega (arith, beyond, st)

-- ---- where pieces start

abbrev begin_of : Group → ℕ
begin_of g = g.interval.start

abbrev end_of : Group → ℕ
end_of g = g.interval.end

-- where chunks start or end, and where a part starts
abbrev bounds_of : Extent → List Group → List ℕ
bounds_of part others = part.start ∷ (map begin_of others ++ map end_of others)

length-bounds : (part : Extent) (others : List Group) → length (bounds_of part others) ≡ 2 * length others + 1
length-bounds part others =
    let both = length-append (map begin_of others) (map end_of others) in
    let one = length-map others begin_of in
    let two = length-map others end_of in
    omega (arith, both, one, two)

at_begin : (part : Extent) (others : List Group) (h : Group) → Contains others h → Contains (bounds_of part others) h.interval.start
at_begin part others h there = Contains-later part.start (map begin_of others ++ map end_of others) h.interval.start (Contains-append_left (map begin_of others) (map end_of others) h.interval.start (Contains-map_back begin_of others h there))

at_end : (part : Extent) (others : List Group) (h : Group) → Contains others h → Contains (bounds_of part others) h.interval.end
at_end part others h there = Contains-later part.start (map begin_of others ++ map end_of others) h.interval.end (Contains-append_right (map begin_of others) (map end_of others) h.interval.end (Contains-map_back end_of others h there))

starts_bound : (held : List Held) (g : Group) (ps : List Shown) (others : List Group) → ArePieces held ps → (IsCompleteIn held g → ⊥) → HasOthers held g others
    → (s : Shown) → Contains (filter_map (cut_piece g.interval) ps) s → Contains (bounds_of g.interval others) s.interval.start
starts_bound held g ps others h not all s there = elim (cases_eq s.interval.start g.interval.start) [
  | inl first ↦ (0, omega arith, sym first)
  | inr later ↦ by_before (visible_at held (s.interval.start - 1)) later
] where
  qs : List Shown
  qs = filter_map (cut_piece g.interval) ps

  runs : AreRuns qs
  runs = AreRuns-cut g.interval ps h.runs

  at_start : Has g.interval s.interval.start × Shows ps s.interval.start s.group
  at_start = (Shows-cut g.interval ps s.interval.start s.group).0 (Shows-start qs s runs there)

  seen : IsVisible held s.interval.start s.group
  seen = ((h.shows s.interval.start s.group).0 at_start.1).1

  -- a chunk that is complete and has an instant of the part is one of the others
  other_at : (x : Group) (t : ℕ) → IsCompleteIn held x → Has x.interval t → Has g.interval t → Contains others x
  other_at x t complete has own = all x complete (λ same. not (subst (IsCompleteIn held) same complete)) (t, has, own)

  own_other : Contains others s.group
  own_other = other_at s.group s.interval.start seen.candidate.complete seen.candidate.has at_start.0

  at_own_start : s.group.interval.start ≡ s.interval.start → Contains (bounds_of g.interval others) s.interval.start
  at_own_start e = subst (Contains (bounds_of g.interval others)) e (at_begin g.interval others s.group own_other)

  by_before : ((x : Group) × IsVisible held (s.interval.start - 1) x) ⊎ NothingVisible held (s.interval.start - 1) → (s.interval.start ≡ g.interval.start → ⊥) → Contains (bounds_of g.interval others) s.interval.start
  by_before (inr nothing) later =
      let low : g.interval.start ≤ s.interval.start = at_start.0.0 in
      let begin : s.group.interval.start ≤ s.interval.start = seen.candidate.has.0 in
      let stop : s.interval.start < s.group.interval.end = seen.candidate.has.1 in
      elim (cases_eq s.group.interval.start s.interval.start) [
        | inl same ↦ at_own_start same
        | inr before ↦ absurd (nothing s.group (record { complete = seen.candidate.complete; has = (omega (arith, begin, before), omega (arith, stop)) }))
      ]
  by_before (inl (x, was)) later =
      let low : g.interval.start ≤ s.interval.start = at_start.0.0 in
      let high : s.interval.start < g.interval.end = at_start.0.1 in
      let begin : s.group.interval.start ≤ s.interval.start = seen.candidate.has.0 in
      let stop : s.interval.start < s.group.interval.end = seen.candidate.has.1 in
      let began : x.interval.start ≤ s.interval.start - 1 = was.candidate.has.0 in
      let stops : s.interval.start - 1 < x.interval.end = was.candidate.has.1 in
      let own : Has g.interval (s.interval.start - 1) = (omega (arith, low, later), omega (arith, high)) in
      elim (cases_eq s.group.interval.start s.interval.start) [
        | inl same ↦ at_own_start same
        | inr before ↦
            let has : Has s.group.interval (s.interval.start - 1) = (omega (arith, begin, before), omega (arith, stop)) in
            elim (was.greatest s.group (record { complete = seen.candidate.complete; has = has })) [
              | inl same ↦
                  absurd (starts_fresh qs runs s there (s.interval.start - 1) (omega (arith, low, later))
                  ((Shows-cut g.interval ps (s.interval.start - 1) s.group).1 (own, (h.shows (s.interval.start - 1) s.group).1 (tt, subst (IsVisible held (s.interval.start - 1)) (sym same) was))))
              | inr above ↦ elim (cases_lt s.interval.start x.interval.end) [
                | inl goes ↦ elim (seen.greatest x (record { complete = was.candidate.complete; has = (omega (arith, began), goes) })) [
                  | inl same ↦
                      let itself = subst (λ (y : Group). Outranks y s.group) same above in
                      absurd (Outranks-one_way s.group s.group itself itself)
                  | inr under ↦ absurd (Outranks-one_way x s.group above under)
                ]
                | inr ended ↦
                    let e : x.interval.end ≡ s.interval.start = omega (arith, ended, stops) in
                    subst (Contains (bounds_of g.interval others)) e (at_end g.interval others x (other_at x (s.interval.start - 1) was.candidate.complete was.candidate.has own))
              ]
            ]
      ]

length-cut_one : (part : Extent) (ps : List Shown) → length (cut (part ∷ []) ps) ≡ length (filter_map (cut_piece part) ps)
length-cut_one part ps = ap length (append-nil (filter_map (cut_piece part) ps))

-- in the interval of a chunk that is not complete, where n others overlap it, at most 2 n + 1 pieces are visible
pub few_pieces : (held : List Held) (g : Group) (ps : List Shown) (others : List Group) → ArePieces held ps → (IsCompleteIn held g → ⊥) → HasOthers held g others → length (cut (g.interval ∷ []) ps) ≤ 2 * length others + 1
few_pieces held g ps others h not all =
    let qs = filter_map (cut_piece g.interval) ps in
    let few = length-le_from_is_member nat_eq_equiv (map start_of qs) (bounds_of g.interval others) (starts_apart qs (AreRuns-cut g.interval ps h.runs)) (λ u there.
    let decides = is_member-Decides (λ a b. (eqb-true a b, eq-eqb a b)) in
    let at = Contains-map start_of qs u ((decides (map start_of qs) u).0 there) in
    (decides (bounds_of g.interval others) u).1 (subst (Contains (bounds_of g.interval others)) at.2 (starts_bound held g ps others h not all at.0 at.1))) in
    let same = length-map qs start_of in
    let bounds = length-bounds g.interval others in
    let one = length-cut_one g.interval ps in
    omega (arith, few, same, bounds, one)

-- the pieces are one list
pub met_of : (held : List Held) (g : Group) (ps qs : List Shown) (old new : ℕ) → ArePieces held ps → ArePieces held qs → new ≤ old + length (cut (g.interval ∷ []) ps) → new ≤ old + length (cut (g.interval ∷ []) qs)
met_of held g ps qs old new hp hq le = subst (λ (xs : List Shown). new ≤ old + length (cut (g.interval ∷ []) xs)) (ArePiecesIn-one_list hp hq) le
