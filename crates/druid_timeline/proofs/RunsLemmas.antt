-- Lists of runs: what they show says which list it is.
use Rattle.std.proofs.Common.{◌≡◌, ◌≢◌, ℕ, ◌<◌, ◌≤◌, List, [], ◌∷◌, refl, sym, ◌∙◌, subst, inl, inr, arith}
use Rattle.std.specs.List.{Contains}
use Rattle.std.proofs.lemmas.Bool.{cases_order}
use Rattle.druid_segment_id.specs.Group.{Group}
use Rattle.druid_base.proofs.MemberLemmas.{Contains-nil, Contains-cons}
use Rattle.druid_timeline.specs.Pieces.{Shown, IsStretch, AreRuns, Shows, ArePiecesIn}
use Rattle.druid_timeline.specs.Holding.{Held}

-- the first of the runs is a stretch
pub AreRuns-first : (a : Shown) (more : List Shown) → AreRuns (a ∷ more) → IsStretch a
AreRuns-first a [] h = h
AreRuns-first a (b ∷ more) h = h.0

pub AreRuns-rest : (a : Shown) (more : List Shown) → AreRuns (a ∷ more) → AreRuns more
AreRuns-rest a [] h = tt
AreRuns-rest a (b ∷ more) h = h.3

-- nothing is shown before the first run starts
pub Shows-from_start : (a : Shown) (more : List Shown) (t : ℕ) (g : Group) → AreRuns (a ∷ more) → Shows (a ∷ more) t g → a.interval.start ≤ t
Shows-from_start a [] t g h (inl here) = here.1.0
Shows-from_start a [] t g h (inr later) = absurd later
Shows-from_start a (b ∷ more) t g h (inl here) = here.1.0
Shows-from_start a (b ∷ more) t g h (inr later) =
    let from = Shows-from_start b more t g h.3 later in
    let stretch : a.interval.start < a.interval.end = h.0 in
    let beyond : a.interval.end ≤ b.interval.start = h.1 in
    omega arith

-- the runs after the first show nothing before it ends
pub Shows-beyond : (a : Shown) (more : List Shown) (t : ℕ) (g : Group) → AreRuns (a ∷ more) → Shows more t g → a.interval.end ≤ t
Shows-beyond a [] t g h later = absurd later
Shows-beyond a (b ∷ more) t g h later =
    let from = Shows-from_start b more t g h.3 later in
    let beyond : a.interval.end ≤ b.interval.start = h.1 in
    omega arith

-- where the first run ends, the chunk changes
pub Shows-at_end : (a : Shown) (more : List Shown) (g : Group) → AreRuns (a ∷ more) → Shows more a.interval.end g → a.group ≢ g
Shows-at_end a [] g h later same = absurd later
Shows-at_end a (b ∷ more) g h (inl here) same =
    let start : b.interval.start ≤ a.interval.end = here.1.0 in
    let beyond : a.interval.end ≤ b.interval.start = h.1 in
    h.2 (omega arith) (same ∙ sym here.0)
Shows-at_end a (b ∷ more) g h (inr later) same =
    let from = Shows-beyond b more a.interval.end g h.3 later in
    let stretch : b.interval.start < b.interval.end = AreRuns-first b more h.3 in
    let beyond : a.interval.end ≤ b.interval.start = h.1 in
    absurd (omega arith)

-- what the first run shows at its start
pub Shows-first : (a : Shown) (more : List Shown) → AreRuns (a ∷ more) → Shows (a ∷ more) a.interval.start a.group
Shows-first a more h =
    let stretch : a.interval.start < a.interval.end = AreRuns-first a more h in
    inl (refl, (omega arith, stretch))

-- and each run at its own
pub Shows-start : (ps : List Shown) (s : Shown) → AreRuns ps → Contains ps s → Shows ps s.interval.start s.group
Shows-start [] s h there = absurd (Contains-nil s there)
Shows-start (a ∷ more) s h there = elim (Contains-cons a more s there) [
  | inl same ↦ subst (λ (x : Shown). Shows (a ∷ more) x.interval.start x.group) same (Shows-first a more h)
  | inr later ↦ inr (Shows-start more s (AreRuns-rest a more h) later)
]

pub shown_same : (a b : Shown) → a.interval.start ≡ b.interval.start → a.interval.end ≡ b.interval.end → a.group ≡ b.group → a ≡ b
shown_same a b start end group i = record { interval = record { start = start i; end = end i }; group = group i }

-- everything that the one shows the other shows
abbrev pub ShowsAll : List Shown → List Shown → Type 0
ShowsAll ps qs = (t : ℕ) (g : Group) → Shows ps t g → Shows qs t g

first_group : (p q : Shown) (qs : List Shown) → AreRuns (q ∷ qs) → p.interval.start ≡ q.interval.start → Shows (q ∷ qs) p.interval.start p.group → q.group ≡ p.group
first_group p q qs h same (inl here) = here.0
first_group p q qs h same (inr later) =
    let beyond = Shows-beyond q qs p.interval.start p.group h later in
    let stretch : q.interval.start < q.interval.end = AreRuns-first q qs h in
    absurd (omega arith)

-- the first run of the one does not go on where that of the other has ended
ends_with : (p q : Shown) (ps qs : List Shown) → AreRuns (p ∷ ps) → AreRuns (q ∷ qs) → p.interval.start ≡ q.interval.start → q.group ≡ p.group → ShowsAll (q ∷ qs) (p ∷ ps) → q.interval.end ≤ p.interval.end
ends_with p q ps qs hp hq start group all =
    elim (cases_order p.interval.end q.interval.end) [
      | inl level ↦ omega arith
      | inr (inl before) ↦
          let stretch : p.interval.start < p.interval.end = AreRuns-first p ps hp in
          let shown = all p.interval.end q.group (inl (refl, (omega arith, before))) in
          absurd (changes shown)
      | inr (inr beyond) ↦ omega arith
    ] where
      changes : Shows (p ∷ ps) p.interval.end q.group → ⊥
      changes (inl here) = let stops : p.interval.end < p.interval.end = here.1.1 in omega arith
      changes (inr later) = Shows-at_end p ps q.group hp later (sym group)

tails : (p q : Shown) (ps qs : List Shown) → AreRuns (p ∷ ps) → q.interval.end ≡ p.interval.end → ShowsAll (p ∷ ps) (q ∷ qs) → ShowsAll ps qs
tails p q ps qs hp end all t g later = beyond (all t g (inr later)) where
  beyond : Shows (q ∷ qs) t g → Shows qs t g
  beyond (inl here) =
      let from = Shows-beyond p ps t g hp later in
      let stops : t < q.interval.end = here.1.1 in
      absurd (omega arith)
  beyond (inr more) = more

-- two lists of runs that show the same are one
pub AreRuns-one_list : (ps qs : List Shown) → AreRuns ps → AreRuns qs → ShowsAll ps qs → ShowsAll qs ps → ps ≡ qs
AreRuns-one_list [] [] hp hq there back = refl
AreRuns-one_list [] (q ∷ qs) hp hq there back = absurd (back q.interval.start q.group (Shows-first q qs hq))
AreRuns-one_list (p ∷ ps) [] hp hq there back = absurd (there p.interval.start p.group (Shows-first p ps hp))
AreRuns-one_list (p ∷ ps) (q ∷ qs) hp hq there back =
    let first = there p.interval.start p.group (Shows-first p ps hp) in
    let first' = back q.interval.start q.group (Shows-first q qs hq) in
    let low = Shows-from_start q qs p.interval.start p.group hq first in
    let low' = Shows-from_start p ps q.interval.start q.group hp first' in
    let start : p.interval.start ≡ q.interval.start = omega arith in
    let group : q.group ≡ p.group = first_group p q qs hq start first in
    let early = ends_with p q ps qs hp hq start group back in
    let early' = ends_with q p qs ps hq hp (sym start) (sym group) there in
    let end : q.interval.end ≡ p.interval.end = omega arith in
    let rest = AreRuns-one_list ps qs (AreRuns-rest p ps hp) (AreRuns-rest q qs hq) (tails p q ps qs hp end there) (tails q p qs ps hq (sym end) back) in
    λ i. shown_same p q start (sym end) (sym group) i ∷ rest i

pub ArePiecesIn-one_list : {set : ℕ → Type 0} {held : List Held} {ps qs : List Shown} → ArePiecesIn set held ps → ArePiecesIn set held qs → ps ≡ qs
ArePiecesIn-one_list {set} {held} {ps} {qs} hp hq =
    AreRuns-one_list ps qs hp.runs hq.runs (λ t g s. (hq.shows t g).1 ((hp.shows t g).0 s)) (λ t g s. (hp.shows t g).1 ((hq.shows t g).0 s))
