-- A chunk that comes over runs, and the runs of a chunk.
use Rattle.std.proofs.Common.{◌≡◌, ◌+◌, ◌<◌, ◌≤◌, ◌⊎◌, ◌↔◌, ◌++◌, ℕ, max, min, List, [], ◌∷◌, length, get_or, take, drop, map, Option, Some, None, MatchOption, refl, sym, ap, ◌∙◌, subst, inl, inr, arith}
use Rattle.std.specs.List.{Contains}
use Rattle.std.proofs.lemmas.Bool.{cases_lt, lt-ltb, le-ltb}
use Rattle.std.proofs.lemmas.List.{take-append-drop, take_more}
use Rattle.std.proofs.lemmas.List.Elements.{Contains-append_cases, Contains-push_cases}
use Rattle.std.proofs.lemmas.Option.{none-some, same_Some}
use Rattle.druid_base.proofs.MemberLemmas.{Contains-cons}
use Rattle.druid_time.specs.Extent.{Extent, Has, common}
use Rattle.druid_segment_id.specs.Group.{Group, Outranks}
use Rattle.druid_timeline.specs.Edited.{IsOverlaid, IsWithin}
use Rattle.druid_timeline.specs.Pieces.{shown_at, AreRuns, Shows}
use Rattle.druid_timeline.proofs.LookupLemmas.{cut_runs, cut_here, later_within}
use Rattle.druid_timeline.proofs.RunsLemmas.{Shows-beyond}
use Rattle.druid_timeline.proofs.SpliceLemmas.{Shows-member, member-Shows, runs_drop}
use Rattle.druid_timeline.proofs.SweepLemmas.{Run, Shows-one, IsSwept, IsSwept-add, AreRuns-stretch, drop_next}

-- ---- what a part and an interval have in common

pub common_is : (part e both : Extent) → common part e ≡ Some both → (max part.start e.start < min part.end e.end) × (both ≡ record { start = max part.start e.start; end = min part.end e.end })
common_is part e both is = elim (cases_lt (max part.start e.start) (min part.end e.end)) [
  | inl lt ↦
      let here : common part e ≡ Some (record { start = max part.start e.start; end = min part.end e.end }) = rw (lt-ltb (max part.start e.start) (min part.end e.end) lt) refl in
      (lt, same_Some both (record { start = max part.start e.start; end = min part.end e.end }) (sym is ∙ here))
  | inr le ↦
      let none : common part e ≡ None = rw (le-ltb (max part.start e.start) (min part.end e.end) le) refl in
      absurd (none-some both (sym none ∙ is))
]

pub common_none : (part e : Extent) → common part e ≡ None → (t : ℕ) → Has part t → Has e t → ⊥
common_none part e is t in_part in_e = elim (cases_lt (max part.start e.start) (min part.end e.end)) [
  | inl lt ↦
      let here : common part e ≡ Some (record { start = max part.start e.start; end = min part.end e.end }) = rw (lt-ltb (max part.start e.start) (min part.end e.end) lt) refl in
      none-some (record { start = max part.start e.start; end = min part.end e.end }) (sym is ∙ here)
  | inr le ↦
      let a : part.start ≤ t = in_part.0 in
      let b : t < part.end = in_part.1 in
      let c : e.start ≤ t = in_e.0 in
      let d : t < e.end = in_e.1 in
      omega (arith, le, a, b, c, d)
]

-- ---- runs that are passed one by one

-- of the runs before a place nothing lies in the part from an instant on, and the others do not start before it
pub record IsPassed (part : Extent) (rs : List Run) (place from : ℕ) : Type 0 where
  pub passed : (r : Run) (t : ℕ) → Contains (take place rs) r → Has part t → Has r.0 t → t < from
  pub left : (r : Run) → Contains (drop place rs) r → (from ≤ part.start) ⊎ (from ≤ r.0.start)

pub IsPassed-start : (part : Extent) (rs : List Run) (place : ℕ) → ((r : Run) → Contains (take place rs) r → r.0.end < part.start) → IsPassed part rs place part.start
IsPassed-start part rs place before = record {
  passed = λ r t there in_part in_run.
      let ended = before r there in
      let low : part.start ≤ t = in_part.0 in
      let high : t < r.0.end = in_run.1 in
      absurd (omega (arith, ended, low, high));
  left = λ r there. inl (omega arith);
}

taken_cases : (rs : List Run) (place : ℕ) (r q : Run) → place < length rs → r ≡ get_or rs place r → Contains (take (place + 1) rs) q → Contains (take place rs) q ⊎ (r ≡ q)
taken_cases rs place r q l at there =
    Contains-push_cases (take place rs) r q
    (subst (λ (xs : List Run). Contains xs q) (take_more rs place r l ∙ ap (λ (x : Run). take place rs ++ x ∷ []) (sym at)) there)

pub IsPassed-skip : (part : Extent) (rs : List Run) (place from : ℕ) (r : Run) → place < length rs → r ≡ get_or rs place r → common part r.0 ≡ None → IsPassed part rs place from → IsPassed part rs (place + 1) from
IsPassed-skip part rs place from r l at none h = record {
  passed = λ q t there in_part in_run. elim (taken_cases rs place r q l at there) [
    | inl before ↦ h.passed q t before in_part in_run
    | inr same ↦ absurd (common_none part r.0 none t in_part (subst (λ (x : Run). Has x.0 t) (sym same) in_run))
  ];
  left = λ q there. h.left q (later_within rs place r q l at there);
}

-- a run after another starts where that ends, or later
after_run : (rs : List Run) (place : ℕ) (r q : Run) → AreRuns (map shown_at rs) → place < length rs → r ≡ get_or rs place r → Contains (drop (place + 1) rs) q → r.0.end ≤ q.0.start
after_run rs place r q runs l at there =
    let next = drop_next rs place r l at in
    let tail = subst (λ (xs : List Run). AreRuns (map shown_at xs)) next (runs_drop rs place runs) in
    let more = drop (place + 1) rs in
    let st : q.0.start < q.0.end = AreRuns-stretch more (runs_drop rs (place + 1) runs) q there in
    Shows-beyond (shown_at r) (map shown_at more) q.0.start q.1 tail (member-Shows more q q.0.start there (omega arith, st))

pub IsPassed-next : (part : Extent) (rs : List Run) (place from : ℕ) (r : Run) (both : Extent) → AreRuns (map shown_at rs) → place < length rs → r ≡ get_or rs place r → common part r.0 ≡ Some both → IsPassed part rs place from → IsPassed part rs (place + 1) both.end
IsPassed-next part rs place from r both runs l at is h = record {
  passed = λ q t there in_part in_run. elim (taken_cases rs place r q l at there) [
    | inl before ↦
        let early = h.passed q t before in_part in_run in
        let order = within.2 in
        let low = from_both in
        omega (arith, early, low, order)
    | inr same ↦
        let high : t < r.0.end = (subst (λ (x : Run). Has x.0 t) (sym same) in_run).1 in
        let stop : t < part.end = in_part.1 in
        let end = within.1 in
        omega (arith, high, stop, end)
  ];
  left = λ q there.
      let beyond = after_run rs place r q runs l at there in
      let end = within.1 in
      inr (omega (arith, beyond, end));
} where
  within : (both.start ≡ max part.start r.0.start) × (both.end ≡ min part.end r.0.end) × (both.start < both.end)
  within =
      let c = common_is part r.0 both is in
      let s : both.start ≡ max part.start r.0.start = ap (λ (x : Extent). x.start) c.1 in
      let e : both.end ≡ min part.end r.0.end = ap (λ (x : Extent). x.end) c.1 in
      let lt = c.0 in
      (s, e, omega (arith, s, e, lt))

  from_both : from ≤ both.start
  from_both = elim (h.left r (subst (λ (xs : List Run). Contains xs r) (sym (drop_next rs place r l at)) (0, omega arith, refl))) [
    | inl low ↦ let s = within.0 in omega (arith, low, s)
    | inr low ↦ let s = within.0 in omega (arith, low, s)
  ]

-- what lies between the instant and what the next run has of the part
pub both_within : (part : Extent) (rs : List Run) (place from : ℕ) (r : Run) (both : Extent) → place < length rs → r ≡ get_or rs place r → common part r.0 ≡ Some both → IsPassed part rs place from
    → (from ≤ both.start) × (both.start < both.end) × (both.end ≤ part.end)
both_within part rs place from r both l at is h =
    let c = common_is part r.0 both is in
    let s : both.start ≡ max part.start r.0.start = ap (λ (x : Extent). x.start) c.1 in
    let e : both.end ≡ min part.end r.0.end = ap (λ (x : Extent). x.end) c.1 in
    let lt = c.0 in
    let low : from ≤ both.start = elim (h.left r (subst (λ (xs : List Run). Contains xs r) (sym (drop_next rs place r l at)) (0, omega arith, refl))) [
      | inl low ↦ omega (arith, low, s)
      | inr low ↦ omega (arith, low, s)
    ] in
    (low, omega (arith, s, e, lt), omega (arith, e))

cases_place : (rs : List Run) (place : ℕ) (q : Run) → Contains rs q → Contains (take place rs) q ⊎ Contains (drop place rs) q
cases_place rs place q there = Contains-append_cases (take place rs) (drop place rs) q (subst (λ (xs : List Run). Contains xs q) (sym (take-append-drop place rs)) there)

-- before the next run starts, nothing is shown
pub nothing_before : (part : Extent) (rs : List Run) (place from : ℕ) (r : Run) (both : Extent) → AreRuns (map shown_at rs) → place < length rs → r ≡ get_or rs place r → common part r.0 ≡ Some both → IsPassed part rs place from
    → (t : ℕ) → from ≤ t → t < both.start → Has part t → (k : Group) → Shows (map shown_at rs) t k → ⊥
nothing_before part rs place from r both runs l at is h t low high has k s =
    let one = Shows-member rs t k s in
    let c = common_is part r.0 both is in
    let start : both.start ≡ max part.start r.0.start = ap (λ (x : Extent). x.start) c.1 in
    let from_part : part.start ≤ t = has.0 in
    let began : one.0.0.start ≤ t = one.3.0 in
    elim (cases_place rs place one.0 one.1) [
      | inl before ↦ let early = h.passed one.0 t before has one.3 in omega (arith, early, low)
      | inr after ↦ elim (Contains-cons r (drop (place + 1) rs) one.0 (subst (λ (xs : List Run). Contains xs one.0) (drop_next rs place r l at) after)) [
        | inl same ↦ let e = ap (λ (x : Run). x.0.start) same in omega (arith, e, began, start, high, from_part)
        | inr later ↦
            let beyond = after_run rs place r one.0 runs l at later in
            let st : r.0.start < r.0.end = AreRuns-stretch rs runs r (place, l, sym at) in
            omega (arith, beyond, st, began, start, high, from_part)
      ]
    ]

-- after the last run that overlaps the part, nothing is shown in it
pub nothing_left : (part : Extent) (rs : List Run) (place from : ℕ) → ((r : Run) → Contains (drop place rs) r → part.end < r.0.start) → IsPassed part rs place from → (t : ℕ) → from ≤ t → Has part t → (k : Group) → Shows (map shown_at rs) t k → ⊥
nothing_left part rs place from late h t low has k s =
    let one = Shows-member rs t k s in
    let began : one.0.0.start ≤ t = one.3.0 in
    let stops : t < part.end = has.1 in
    elim (cases_place rs place one.0 one.1) [
      | inl before ↦ let early = h.passed one.0 t before has one.3 in omega (arith, early, low)
      | inr after ↦ let beyond = late one.0 after in omega (arith, beyond, began, stops)
    ]

-- ---- what is seen

seen_alone : (rs : List Run) (own : Group) (t : ℕ) → ((k : Group) → Shows (map shown_at rs) t k → ⊥) → (g : Group) → IsOverlaid (map shown_at rs) own t g ↔ (own ≡ g)
seen_alone rs own t none g = (forth, λ same. inl (same, λ k s. absurd (none k s))) where
  forth : IsOverlaid (map shown_at rs) own t g → own ≡ g
  forth (inl here) = here.0
  forth (inr shown) = absurd (none g shown.0)

-- the chunk and a run's, whichever is better
abbrev pub IsBetterOf : Group → Group → Group → Type 0
IsBetterOf own other key = (Outranks own other × (key ≡ own)) ⊎ ((Outranks own other → ⊥) × (key ≡ other))

seen_better : (rs : List Run) (own key : Group) (r : Run) (t : ℕ) → AreRuns (map shown_at rs) → Contains rs r → Has r.0 t → IsBetterOf own r.1 key → (g : Group) → IsOverlaid (map shown_at rs) own t g ↔ (key ≡ g)
seen_better rs own key r t runs there has better g = by_rank better where
  shown : Shows (map shown_at rs) t r.1
  shown = member-Shows rs r t there has

  only : (k : Group) → Shows (map shown_at rs) t k → r.1 ≡ k
  only k s = Shows-one (map shown_at rs) t r.1 k runs shown s

  by_rank : IsBetterOf own r.1 key → IsOverlaid (map shown_at rs) own t g ↔ (key ≡ g)
  by_rank (inl (above, is)) = (forth, λ same. inl (sym is ∙ same, λ k s. subst (Outranks own) (only k s) above)) where
    forth : IsOverlaid (map shown_at rs) own t g → key ≡ g
    forth (inl here) = is ∙ here.0
    forth (inr hidden) = absurd (hidden.1 (subst (Outranks own) (only g hidden.0) above))
  by_rank (inr (not, is)) = (forth, λ same. inr (subst (Shows (map shown_at rs) t) (sym is ∙ same) shown, λ above. not (subst (Outranks own) (sym (sym is ∙ same)) above))) where
    forth : IsOverlaid (map shown_at rs) own t g → key ≡ g
    forth (inl here) = absurd (not (here.1 r.1 shown))
    forth (inr hidden) = is ∙ only g hidden.0

-- ---- one run more

-- up to the next run
pub swept_gap : (part : Extent) (rs old new newer : List Run) (own : Group) (place from : ℕ) (r : Run) (both : Extent) → AreRuns (map shown_at rs) → place < length rs → r ≡ get_or rs place r → common part r.0 ≡ Some both → IsPassed part rs place from
    → IsSwept part (IsOverlaid (map shown_at rs) own) old new from → AreRuns (map shown_at newer)
    → ((t : ℕ) (g : Group) → Shows (map shown_at newer) t g ↔ (Shows (map shown_at new) t g ⊎ ((own ≡ g) × ((from ≤ t) × (t < both.start)))))
    → IsSwept part (IsOverlaid (map shown_at rs) own) old newer both.start
swept_gap part rs old new newer own place from r both runs l at is h swept newer_runs shows =
    let w = both_within part rs place from r both l at is h in
    let low = swept.low in
    IsSwept-add part (IsOverlaid (map shown_at rs) own) old new newer from both.start (λ g. own ≡ g) swept w.0 (omega (arith, w.1, w.2)) newer_runs
    (λ t after before g. seen_alone rs own t (nothing_before part rs place from r both runs l at is h t after before (omega (arith, after, low), omega (arith, before, w.1, w.2))) g) shows

-- and over it
pub swept_run : (part : Extent) (rs old new newer : List Run) (own key : Group) (place from : ℕ) (r : Run) (both : Extent) → AreRuns (map shown_at rs) → place < length rs → r ≡ get_or rs place r → common part r.0 ≡ Some both → IsPassed part rs place from
    → IsBetterOf own r.1 key → IsSwept part (IsOverlaid (map shown_at rs) own) old new both.start → AreRuns (map shown_at newer)
    → ((t : ℕ) (g : Group) → Shows (map shown_at newer) t g ↔ (Shows (map shown_at new) t g ⊎ ((key ≡ g) × Has both t)))
    → IsSwept part (IsOverlaid (map shown_at rs) own) old newer both.end
swept_run part rs old new newer own key place from r both runs l at is h better swept newer_runs shows =
    let w = both_within part rs place from r both l at is h in
    let c = common_is part r.0 both is in
    let s : both.start ≡ max part.start r.0.start = ap (λ (x : Extent). x.start) c.1 in
    let e : both.end ≡ min part.end r.0.end = ap (λ (x : Extent). x.end) c.1 in
    IsSwept-add part (IsOverlaid (map shown_at rs) own) old new newer both.start both.end (λ g. key ≡ g) swept (omega (arith, w.1)) w.2 newer_runs
    (λ t after before g. seen_better rs own key r t runs (place, l, sym at) (omega (arith, after, s), omega (arith, before, e)) better g) shows

-- up to the end of the part
pub swept_last : (part : Extent) (rs old new newer : List Run) (own : Group) (place from : ℕ) → ((r : Run) → Contains (drop place rs) r → part.end < r.0.start) → IsPassed part rs place from
    → IsSwept part (IsOverlaid (map shown_at rs) own) old new from → AreRuns (map shown_at newer)
    → ((t : ℕ) (g : Group) → Shows (map shown_at newer) t g ↔ (Shows (map shown_at new) t g ⊎ ((own ≡ g) × ((from ≤ t) × (t < part.end)))))
    → IsSwept part (IsOverlaid (map shown_at rs) own) old newer part.end
swept_last part rs old new newer own place from late h swept newer_runs shows =
    let low = swept.low in
    IsSwept-add part (IsOverlaid (map shown_at rs) own) old new newer from part.end (λ g. own ≡ g) swept swept.high (omega arith) newer_runs
    (λ t after before g. seen_alone rs own t (nothing_left part rs place from late h t after (omega (arith, after, low), before)) g) shows

-- ---- how many are compared

pub count_skip : (part : Extent) (rs : List Run) (place : ℕ) (r : Run) → place < length rs → r ≡ get_or rs place r → common part r.0 ≡ None → cut_runs part (drop place rs) ≡ cut_runs part (drop (place + 1) rs)
count_skip part rs place r l at none = ap (cut_runs part) (drop_next rs place r l at) ∙ skipped where
  skipped : cut_runs part (r ∷ drop (place + 1) rs) ≡ cut_runs part (drop (place + 1) rs)
  skipped = rw none refl

pub count_next : (part : Extent) (rs : List Run) (place : ℕ) (r : Run) (both : Extent) → place < length rs → r ≡ get_or rs place r → common part r.0 ≡ Some both → length (cut_runs part (drop place rs)) ≡ length (cut_runs part (drop (place + 1) rs)) + 1
count_next part rs place r both l at is =
    let e = ap length (ap (cut_runs part) (drop_next rs place r l at) ∙ cut_here part both r (drop (place + 1) rs) is) in
    omega (arith, e)

-- ---- the instants at which runs show a chunk

-- what a hull has, if there is one
abbrev pub HullHas : Option Extent → ℕ → Type 0
HullHas hull t = MatchOption hull ⊥ (λ h. Has h t)

-- the hull has what the runs before a place have of the part, of one chunk
abbrev pub HullCovers : Extent → List Run → Group → ℕ → Option Extent → Type 0
HullCovers part rs own place hull = (r : Run) (t : ℕ) → Contains (take place rs) r → r.1 ≡ own → Has part t → Has r.0 t → HullHas hull t

pub HullCovers-start : (part : Extent) (rs : List Run) (own : Group) (place : ℕ) (hull : Option Extent) → ((r : Run) → Contains (take place rs) r → r.0.end < part.start) → HullCovers part rs own place hull
HullCovers-start part rs own place hull before r t there mine in_part in_run =
    let ended = before r there in
    let low : part.start ≤ t = in_part.0 in
    let high : t < r.0.end = in_run.1 in
    absurd (omega (arith, ended, low, high))

pub HullCovers-skip : (part : Extent) (rs : List Run) (own : Group) (place : ℕ) (r : Run) (hull : Option Extent) → place < length rs → r ≡ get_or rs place r → ((t : ℕ) → r.1 ≡ own → Has part t → Has r.0 t → ⊥) → HullCovers part rs own place hull → HullCovers part rs own (place + 1) hull
HullCovers-skip part rs own place r hull l at none h q t there mine in_part in_run = elim (taken_cases rs place r q l at there) [
  | inl before ↦ h q t before mine in_part in_run
  | inr same ↦ absurd (none t (ap (λ (x : Run). x.1) same ∙ mine) in_part (subst (λ (x : Run). Has x.0 t) (sym same) in_run))
]

pub HullCovers-next : (part : Extent) (rs : List Run) (own : Group) (place : ℕ) (r : Run) (both : Extent) (old new : Option Extent) → place < length rs → r ≡ get_or rs place r → common part r.0 ≡ Some both → ((t : ℕ) → HullHas old t ⊎ Has both t → HullHas new t)
    → HullCovers part rs own place old → HullCovers part rs own (place + 1) new
HullCovers-next part rs own place r both old new l at is wider h q t there mine in_part in_run = elim (taken_cases rs place r q l at there) [
  | inl before ↦ wider t (inl (h q t before mine in_part in_run))
  | inr same ↦
      let c = common_is part r.0 both is in
      let s : both.start ≡ max part.start r.0.start = ap (λ (x : Extent). x.start) c.1 in
      let e : both.end ≡ min part.end r.0.end = ap (λ (x : Extent). x.end) c.1 in
      let own_run : Has r.0 t = subst (λ (x : Run). Has x.0 t) (sym same) in_run in
      let a : part.start ≤ t = in_part.0 in
      let b : t < part.end = in_part.1 in
      let d : r.0.start ≤ t = own_run.0 in
      let f : t < r.0.end = own_run.1 in
      wider t (inr (omega (arith, s, a, d), omega (arith, e, b, f)))
]

pub both_inside : (part : Extent) (r : Run) (both : Extent) → common part r.0 ≡ Some both → IsWithin both part
both_inside part r both is =
    let c = common_is part r.0 both is in
    let s : both.start ≡ max part.start r.0.start = ap (λ (x : Extent). x.start) c.1 in
    let e : both.end ≡ min part.end r.0.end = ap (λ (x : Extent). x.end) c.1 in
    (omega (arith, s), omega (arith, e))

pub HullCovers-end : (part : Extent) (rs : List Run) (own : Group) (place : ℕ) (hull : Option Extent) → ((r : Run) → Contains (drop place rs) r → part.end < r.0.start) → HullCovers part rs own place hull → (t : ℕ) → Has part t → Shows (map shown_at rs) t own → HullHas hull t
HullCovers-end part rs own place hull late h t has s =
    let one = Shows-member rs t own s in
    let began : one.0.0.start ≤ t = one.3.0 in
    let stops : t < part.end = has.1 in
    elim (cases_place rs place one.0 one.1) [
      | inl before ↦ h one.0 t before one.2 has one.3
      | inr after ↦ let beyond = late one.0 after in absurd (omega (arith, beyond, began, stops))
    ]
