-- Pieces, cut by the parts of a set.
use Rattle.std.proofs.Common.{◌≡◌, ◌≢◌, ◌-◌, ◌<◌, ◌≤◌, ◌⊎◌, ◌↔◌, ◌++◌, ℕ, suc, max, min, List, [], ◌∷◌, Some, None, refl, sym, subst, inl, inr, arith}
use Rattle.std.specs.List.{All, filter_map}
use Rattle.std.proofs.lemmas.Bool.{cases_lt, lt-ltb, le-ltb}
use Rattle.druid_time.specs.Extent.{Extent, IsExtent, Has, AnyHas, AreApart, AreParts}
use Rattle.druid_segment_id.specs.Group.{Group}
use Rattle.druid_timeline.specs.Holding.{Held}
use Rattle.druid_timeline.specs.Pieces.{Shown, IsStretch, AreRuns, Shows, ArePiecesIn, ArePieces, cut_piece, cut}
use Rattle.druid_timeline.proofs.RunsLemmas.{AreRuns-first, AreRuns-rest, Shows-first, Shows-beyond, Shows-at_end}
use Rattle.druid_timeline.proofs.SweepLemmas.{Shows-left, Shows-right, Shows-cases}

-- a run before others, seen by what they show
pub AreRuns-cons : (a : Shown) (xs : List Shown) → IsStretch a → AreRuns xs → ((t : ℕ) (g : Group) → Shows xs t g → a.interval.end ≤ t) → ((g : Group) → Shows xs a.interval.end g → a.group ≢ g) → AreRuns (a ∷ xs)
AreRuns-cons a [] st runs beyond changes = st
AreRuns-cons a (b ∷ more) st runs beyond changes =
    let first = Shows-first b more runs in
    (st, beyond b.interval.start b.group first, (λ touch. changes b.group (subst (λ (t : ℕ). Shows (b ∷ more) t b.group) (sym touch) first)), runs)

-- what a part and a piece have in common
abbrev both : Extent → Shown → Shown
both part s = record { interval = record { start = max part.start s.interval.start; end = min part.end s.interval.end }; group = s.group }

pub cut_cases : (part : Extent) (s : Shown) → ((max part.start s.interval.start < min part.end s.interval.end) × (cut_piece part s ≡ Some (both part s))) ⊎ ((min part.end s.interval.end ≤ max part.start s.interval.start) × (cut_piece part s ≡ None))
cut_cases part s = elim (cases_lt (max part.start s.interval.start) (min part.end s.interval.end)) [
  | inl lt ↦ inl (lt, rw (lt-ltb (max part.start s.interval.start) (min part.end s.interval.end) lt) refl)
  | inr le ↦ inr (le, rw (le-ltb (max part.start s.interval.start) (min part.end s.interval.end) le) refl)
]

-- ---- cut by one part

pub Shows-cut : (part : Extent) (ps : List Shown) (t : ℕ) (g : Group) → Shows (filter_map (cut_piece part) ps) t g ↔ (Has part t × Shows ps t g)
Shows-cut part [] t g = (λ none. absurd none, λ h. h.1)
Shows-cut part (s ∷ ps) t g = by_rest (Shows-cut part ps t g) (cut_cases part s) where
  by_rest : (Shows (filter_map (cut_piece part) ps) t g ↔ (Has part t × Shows ps t g))
      → ((max part.start s.interval.start < min part.end s.interval.end) × (cut_piece part s ≡ Some (both part s))) ⊎ ((min part.end s.interval.end ≤ max part.start s.interval.start) × (cut_piece part s ≡ None))
      → Shows (filter_map (cut_piece part) (s ∷ ps)) t g ↔ (Has part t × (((s.group ≡ g) × Has s.interval t) ⊎ Shows ps t g))
  by_rest rest (inl (lt, e)) = rw e (forth, back) where
    forth : ((s.group ≡ g) × Has (both part s).interval t) ⊎ Shows (filter_map (cut_piece part) ps) t g → Has part t × (((s.group ≡ g) × Has s.interval t) ⊎ Shows ps t g)
    forth (inl here) =
        let low : max part.start s.interval.start ≤ t = here.1.0 in
        let high : t < min part.end s.interval.end = here.1.1 in
        ((omega arith, omega arith), inl (here.0, (omega arith, omega arith)))
    forth (inr later) = let h = rest.0 later in (h.0, inr h.1)

    back : Has part t × (((s.group ≡ g) × Has s.interval t) ⊎ Shows ps t g) → ((s.group ≡ g) × Has (both part s).interval t) ⊎ Shows (filter_map (cut_piece part) ps) t g
    back (in_part, inl here) =
        let p : part.start ≤ t = in_part.0 in
        let q : t < part.end = in_part.1 in
        let u : s.interval.start ≤ t = here.1.0 in
        let v : t < s.interval.end = here.1.1 in
        inl (here.0, (omega arith, omega arith))
    back (in_part, inr later) = inr (rest.1 (in_part, later))
  by_rest rest (inr (le, e)) = rw e (forth, back) where
    forth : Shows (filter_map (cut_piece part) ps) t g → Has part t × (((s.group ≡ g) × Has s.interval t) ⊎ Shows ps t g)
    forth later = let h = rest.0 later in (h.0, inr h.1)

    back : Has part t × (((s.group ≡ g) × Has s.interval t) ⊎ Shows ps t g) → Shows (filter_map (cut_piece part) ps) t g
    back (in_part, inl here) =
        let p : part.start ≤ t = in_part.0 in
        let q : t < part.end = in_part.1 in
        let u : s.interval.start ≤ t = here.1.0 in
        let v : t < s.interval.end = here.1.1 in
        absurd (omega arith)
    back (in_part, inr later) = rest.1 (in_part, later)

pub AreRuns-cut : (part : Extent) (ps : List Shown) → AreRuns ps → AreRuns (filter_map (cut_piece part) ps)
AreRuns-cut part [] runs = tt
AreRuns-cut part (s ∷ ps) runs = by_rest (AreRuns-cut part ps (AreRuns-rest s ps runs)) (cut_cases part s) where
  beyond : (t : ℕ) (g : Group) → Shows (filter_map (cut_piece part) ps) t g → min part.end s.interval.end ≤ t
  beyond t g later =
      let b = Shows-beyond s ps t g runs ((Shows-cut part ps t g).0 later).1 in
      omega arith

  changes : (g : Group) → Shows (filter_map (cut_piece part) ps) (min part.end s.interval.end) g → s.group ≢ g
  changes g later =
      let at = ((Shows-cut part ps (min part.end s.interval.end) g).0 later).1 in
      let b = Shows-beyond s ps (min part.end s.interval.end) g runs at in
      let same : min part.end s.interval.end ≡ s.interval.end = omega arith in
      Shows-at_end s ps g runs (subst (λ (t : ℕ). Shows ps t g) same at)

  by_rest : AreRuns (filter_map (cut_piece part) ps)
      → ((max part.start s.interval.start < min part.end s.interval.end) × (cut_piece part s ≡ Some (both part s))) ⊎ ((min part.end s.interval.end ≤ max part.start s.interval.start) × (cut_piece part s ≡ None))
      → AreRuns (filter_map (cut_piece part) (s ∷ ps))
  by_rest rest (inl (lt, e)) = rw e (AreRuns-cons (both part s) (filter_map (cut_piece part) ps) lt rest beyond changes)
  by_rest rest (inr (le, e)) = rw e rest

-- ---- runs with a gap between

AreRuns-append : (xs ys : List Shown) (e : ℕ) → AreRuns xs → AreRuns ys → ((t : ℕ) (g : Group) → Shows xs t g → t < e) → ((t : ℕ) (g : Group) → Shows ys t g → e < t) → AreRuns (xs ++ ys)
AreRuns-append [] ys e hx hy before beyond = hy
AreRuns-append (a ∷ xs) ys e hx hy before beyond =
    AreRuns-cons a (xs ++ ys) (AreRuns-first a xs hx)
    (AreRuns-append xs ys e (AreRuns-rest a xs hx) hy (λ t g s. before t g (inr s)) beyond)
    (λ t g s. after t g (Shows-cases xs ys t g s)) (λ g s. changes g (Shows-cases xs ys a.interval.end g s)) where
      ends : a.interval.end ≤ e
      ends =
          let st : a.interval.start < a.interval.end = AreRuns-first a xs hx in
          let l = before (a.interval.end - 1) a.group (inl (refl, (omega arith, omega arith))) in
          omega arith

      after : (t : ℕ) (g : Group) → Shows xs t g ⊎ Shows ys t g → a.interval.end ≤ t
      after t g (inl s) = Shows-beyond a xs t g hx s
      after t g (inr s) = let l = beyond t g s in let m = ends in omega arith

      changes : (g : Group) → Shows xs a.interval.end g ⊎ Shows ys a.interval.end g → a.group ≢ g
      changes g (inl s) = Shows-at_end a xs g hx s
      changes g (inr s) = let l = beyond a.interval.end g s in let m = ends in absurd (omega arith)

-- ---- cut by all parts

rest_each : (p : Extent) (ps : List Extent) → All IsExtent (p ∷ ps) → All IsExtent ps
rest_each p ps each k d l = each (suc k) d (omega arith)

rest_apart : (p : Extent) (ps : List Extent) → AreApart (p ∷ ps) → AreApart ps
rest_apart p [] apart = tt
rest_apart p (q ∷ more) apart = apart.1

all_beyond : (p : Extent) (ps : List Extent) (t : ℕ) → AreApart (p ∷ ps) → All IsExtent ps → AnyHas ps t → p.end < t
all_beyond p [] t apart each h = absurd h
all_beyond p (q ∷ more) t apart each (inl here) =
    let gap : p.end < q.start = apart.0 in
    let from : q.start ≤ t = here.0 in
    omega arith
all_beyond p (q ∷ more) t apart each (inr later) =
    let b = all_beyond q more t apart.1 (rest_each q more each) later in
    let gap : p.end < q.start = apart.0 in
    let own : q.start < q.end = (each 0 q (omega arith)).0 in
    omega arith

pub Shows-cut_all : (parts : List Extent) (ps : List Shown) (t : ℕ) (g : Group) → Shows (cut parts ps) t g ↔ (AnyHas parts t × Shows ps t g)
Shows-cut_all [] ps t g = (λ none. absurd none, λ h. h.0)
Shows-cut_all (p ∷ parts) ps t g = by_rest (Shows-cut_all parts ps t g) where
  by_rest : (Shows (cut parts ps) t g ↔ (AnyHas parts t × Shows ps t g)) → Shows (cut (p ∷ parts) ps) t g ↔ ((Has p t ⊎ AnyHas parts t) × Shows ps t g)
  by_rest rest = (λ s. forth (Shows-cases (filter_map (cut_piece p) ps) (cut parts ps) t g s), back) where
    forth : Shows (filter_map (cut_piece p) ps) t g ⊎ Shows (cut parts ps) t g → (Has p t ⊎ AnyHas parts t) × Shows ps t g
    forth (inl s) = let h = (Shows-cut p ps t g).0 s in (inl h.0, h.1)
    forth (inr s) = let h = rest.0 s in (inr h.0, h.1)

    back : (Has p t ⊎ AnyHas parts t) × Shows ps t g → Shows (cut (p ∷ parts) ps) t g
    back (inl here, s) = Shows-left (filter_map (cut_piece p) ps) (cut parts ps) t g ((Shows-cut p ps t g).1 (here, s))
    back (inr later, s) = Shows-right (filter_map (cut_piece p) ps) (cut parts ps) t g (rest.1 (later, s))

pub AreRuns-cut_all : (parts : List Extent) (ps : List Shown) → AreApart parts → All IsExtent parts → AreRuns ps → AreRuns (cut parts ps)
AreRuns-cut_all [] ps apart each runs = tt
AreRuns-cut_all (p ∷ parts) ps apart each runs =
    AreRuns-append (filter_map (cut_piece p) ps) (cut parts ps) p.end (AreRuns-cut p ps runs) (AreRuns-cut_all parts ps (rest_apart p parts apart) (rest_each p parts each) runs)
    (λ t g s. ((Shows-cut p ps t g).0 s).0.1)
    (λ t g s. all_beyond p parts t apart (rest_each p parts each) ((Shows-cut_all parts ps t g).0 s).0)

pub ArePiecesIn-cut : (parts : List Extent) (held : List Held) (ps : List Shown) → AreParts parts → ArePieces held ps → ArePiecesIn (AnyHas parts) held (cut parts ps)
ArePiecesIn-cut parts held ps whole h = record {
  runs = AreRuns-cut_all parts ps whole.apart whole.each h.runs;
  shows = λ t g. (
    λ s. let at = (Shows-cut_all parts ps t g).0 s in (at.0, ((h.shows t g).0 at.1).1),
    λ v. (Shows-cut_all parts ps t g).1 (v.0, (h.shows t g).1 (tt, v.1)),
  );
}
