-- Runs that are found by halving.
use Rattle.std.proofs.Common.{◌≡◌, ◌+◌, ◌<◌, ◌≤◌, ◌⊎◌, ℕ, zero, suc, true, false, List, [], ◌∷◌, length, get_or, take, drop, map, add-one, nat_cmp, nat_lt, refl, sym, ◌∙◌, subst, inl, inr, arith}
use Rattle.std.specs.List.{Contains, AllWithin}
use Rattle.std.specs.List.Sorted.{IsNonDecreasingBy, IsPartitionedBy, IsPartitionPoint}
use Rattle.std.specs.Ordering.{is_le}
use Rattle.std.proofs.lemmas.Bool.{cases_lt, ltb-true, ltb-false}
use Rattle.std.proofs.lemmas.List.{get_or_default, get_or-take, get_or-drop, length-take, length-drop, drop_all}
use Rattle.std.proofs.lemmas.List.Elements.{Contains-get_or}
use Rattle.std.proofs.lemmas.List.Sorted.{IsNonDecreasingBy-from_all_adjacent}
use Rattle.druid_base.proofs.OrderLemmas.{is_le-from}
use Rattle.druid_time.specs.Extent.{Has}
use Rattle.druid_time.proofs.ExtentLemmas.{at_most, above}
use Rattle.druid_segment_id.specs.Group.{Group}
use Rattle.druid_timeline.specs.Pieces.{shown_at, AreRuns, Shows}
use Rattle.druid_timeline.proofs.RunsLemmas.{Shows-beyond}
use Rattle.druid_timeline.proofs.SpliceLemmas.{Shows-member, split_at, runs_drop}
use Rattle.druid_timeline.proofs.SweepLemmas.{Run, Shows-cases, AreRuns-stretch, drop_next}

-- ---- starts and ends rise

run_adjacent : (rs : List Run) → AreRuns (map shown_at rs) → (k : ℕ) (d : Run) → suc k < length rs → (get_or rs k d).0.end ≤ (get_or rs (suc k) d).0.start
run_adjacent [] runs k d l = absurd (omega (arith, l))
run_adjacent (a ∷ []) runs k d l = absurd (omega (arith, l))
run_adjacent (a ∷ b ∷ rs) runs zero d l = runs.1
run_adjacent (a ∷ b ∷ rs) runs (suc k) d l = run_adjacent (b ∷ rs) runs.3 k d (omega (arith, l))

adjacent : (rs : List Run) → AreRuns (map shown_at rs) → (k : ℕ) (d : Run) → k + 1 < length rs → (get_or rs k d).0.end ≤ (get_or rs (k + 1) d).0.start
adjacent rs runs k d l = subst (λ (j : ℕ). (get_or rs k d).0.end ≤ (get_or rs j d).0.start) (sym (add-one k)) (run_adjacent rs runs k d (omega (arith, l)))

stretch_at : (rs : List Run) → AreRuns (map shown_at rs) → (k : ℕ) (d : Run) → k < length rs → (get_or rs k d).0.start < (get_or rs k d).0.end
stretch_at rs runs k d l = AreRuns-stretch rs runs (get_or rs k d) (Contains-get_or rs k d l)

pub ends_rise : (rs : List Run) → AreRuns (map shown_at rs) → IsNonDecreasingBy (λ (r : Run). r.0.end) rs
ends_rise rs runs =
    IsNonDecreasingBy-from_all_adjacent (λ (r : Run). r.0.end) rs
    (λ k d l. omega (arith, adjacent rs runs k d l, stretch_at rs runs (k + 1) d l))

pub starts_rise : (rs : List Run) → AreRuns (map shown_at rs) → IsNonDecreasingBy (λ (r : Run). r.0.start) rs
starts_rise rs runs =
    IsNonDecreasingBy-from_all_adjacent (λ (r : Run). r.0.start) rs
    (λ k d l. omega (arith, adjacent rs runs k d l, stretch_at rs runs k d (omega (arith, l))))

-- what `partition_point` asks at the test `n(x) <= t`
pub parted_le : (n : Run → ℕ) (rs : List Run) (t : ℕ) → IsNonDecreasingBy n rs → IsPartitionedBy (λ r. is_le (nat_cmp (n r) t)) rs
parted_le n rs t up i j d low below e = is_le-from (n (get_or rs i d)) t (omega (arith, up i j d low below, at_most (n (get_or rs j d)) t e))

-- ---- what stands before and after a place

within_take : (P : Run → Type 0) (rs : List Run) (i : ℕ) → i ≤ length rs → AllWithin P rs 0 i → (r : Run) → Contains (take i rs) r → P r
within_take P rs i le all r (k, l, at) =
    let below : k < i = omega (arith, l, length-take i rs, le) in
    subst P (sym (get_or-take i rs k r below) ∙ at) (all k r (omega arith) below)

within_drop : (P : Run → Type 0) (rs : List Run) (i : ℕ) → AllWithin P rs i (length rs) → (r : Run) → Contains (drop i rs) r → P r
within_drop P rs i all r (k, l, at) =
    subst P (sym (get_or-drop i rs k r) ∙ at) (all (i + k) r (omega arith) (omega (arith, l, length-drop i rs)))

-- at the test `n(x) <= t`
pub taken_le : (n : Run → ℕ) (rs : List Run) (t i : ℕ) → i ≤ length rs → IsPartitionPoint (λ r. is_le (nat_cmp (n r) t) ≡ true) (λ r. is_le (nat_cmp (n r) t) ≡ false) rs i → (r : Run) → Contains (take i rs) r → n r ≤ t
taken_le n rs t i le point r there = at_most (n r) t (within_take (λ r. is_le (nat_cmp (n r) t) ≡ true) rs i le point.0 r there)

pub left_le : (n : Run → ℕ) (rs : List Run) (t i : ℕ) → IsPartitionPoint (λ r. is_le (nat_cmp (n r) t) ≡ true) (λ r. is_le (nat_cmp (n r) t) ≡ false) rs i → (r : Run) → Contains (drop i rs) r → t < n r
left_le n rs t i point r there = above (n r) t (within_drop (λ r. is_le (nat_cmp (n r) t) ≡ false) rs i point.1 r there)

-- at the test `n(x) < t`
pub taken_lt : (n : Run → ℕ) (rs : List Run) (t i : ℕ) → i ≤ length rs → IsPartitionPoint (λ r. nat_lt (n r) t ≡ true) (λ r. nat_lt (n r) t ≡ false) rs i → (r : Run) → Contains (take i rs) r → n r < t
taken_lt n rs t i le point r there = ltb-true (n r) t (within_take (λ r. nat_lt (n r) t ≡ true) rs i le point.0 r there)

pub left_lt : (n : Run → ℕ) (rs : List Run) (t i : ℕ) → IsPartitionPoint (λ r. nat_lt (n r) t ≡ true) (λ r. nat_lt (n r) t ≡ false) rs i → (r : Run) → Contains (drop i rs) r → t ≤ n r
left_lt n rs t i point r there = ltb-false (n r) t (within_drop (λ r. nat_lt (n r) t ≡ false) rs i point.1 r there)

-- the run at a place is the first of those from it on
pub at_place : (rs : List Run) (i : ℕ) (r : Run) → i < length rs → r ≡ get_or rs i r → Contains (drop i rs) r
at_place rs i r l at = subst (λ (xs : List Run). Contains xs r) (sym (drop_next rs i r l at)) (0, omega arith, refl)

nowhere : Run
nowhere = (record { start = 0; end = 0 }, record { interval = record { start = 0; end = 0 }; version = [] })

-- the runs that end before a part stand before those that start after it
pub places_ordered : (rs : List Run) (from to a b : ℕ) → a < b → AreRuns (map shown_at rs) → from ≤ length rs → ((r : Run) → Contains (take from rs) r → r.0.end < a) → ((r : Run) → Contains (drop to rs) r → b < r.0.start) → from ≤ to
places_ordered rs from to a b order runs inside early late = elim (cases_lt to from) [
  | inr le ↦ le
  | inl lt ↦
      let r = get_or rs to nowhere in
      let l : to < length rs = omega (arith, lt, inside) in
      let own : r ≡ get_or rs to r = get_or_default rs to nowhere r l in
      let st = stretch_at rs runs to nowhere l in
      let below : to < length (take from rs) = omega (arith, lt, length-take from rs, inside) in
      let e = early r (to, below, get_or-take from rs to r lt ∙ sym own) in
      let s = late r (at_place rs to r l own) in
      absurd (omega (arith, e, s, st, order))
]

-- ---- what is shown at an instant

-- where those before the place have ended, and those from it on have not, only the run at the place can have the instant
pub shown_beyond : (rs : List Run) (t i : ℕ) (r : Run) → AreRuns (map shown_at rs) → i < length rs → r ≡ get_or rs i r
    → ((q : Run) → Contains (take i rs) q → q.0.end ≤ t) → t < r.0.end → (g : Group) → Shows (map shown_at rs) t g → Has r.0 t
shown_beyond rs t i r runs l at before stays g s = by_part (Shows-cases (map shown_at (take i rs)) (map shown_at (drop i rs)) t g (subst (λ xs. Shows xs t g) (sym (split_at rs i)) s)) where
  next : drop i rs ≡ r ∷ drop (i + 1) rs
  next = drop_next rs i r l at

  rest : AreRuns (map shown_at (r ∷ drop (i + 1) rs))
  rest = subst (λ (xs : List Run). AreRuns (map shown_at xs)) next (runs_drop rs i runs)

  at_run : Shows (map shown_at (r ∷ drop (i + 1) rs)) t g → Has r.0 t
  at_run (inl here) = here.1
  at_run (inr later) =
      let beyond : r.0.end ≤ t = Shows-beyond (shown_at r) (map shown_at (drop (i + 1) rs)) t g rest later in
      absurd (omega (arith, beyond, stays))

  by_part : Shows (map shown_at (take i rs)) t g ⊎ Shows (map shown_at (drop i rs)) t g → Has r.0 t
  by_part (inl early) =
      let one = Shows-member (take i rs) t g early in
      let ended = before one.0 one.1 in
      let stops : t < one.0.0.end = one.3.1 in
      absurd (omega (arith, ended, stops))
  by_part (inr late) = at_run (subst (λ (xs : List Run). Shows (map shown_at xs) t g) next late)

pub shown_nowhere : (rs : List Run) (t i : ℕ) → length rs ≤ i → i ≤ length rs → ((q : Run) → Contains (take i rs) q → q.0.end ≤ t) → (g : Group) → Shows (map shown_at rs) t g → ⊥
shown_nowhere rs t i past le before g s = by_part (Shows-cases (map shown_at (take i rs)) (map shown_at (drop i rs)) t g (subst (λ xs. Shows xs t g) (sym (split_at rs i)) s)) where
  by_part : Shows (map shown_at (take i rs)) t g ⊎ Shows (map shown_at (drop i rs)) t g → ⊥
  by_part (inl early) =
      let one = Shows-member (take i rs) t g early in
      let ended = before one.0 one.1 in
      let stops : t < one.0.0.end = one.3.1 in
      omega (arith, ended, stops)
  by_part (inr late) = subst (λ (xs : List Run). Shows (map shown_at xs) t g) (drop_all i rs past) late
