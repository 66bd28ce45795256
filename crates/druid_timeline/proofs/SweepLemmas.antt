-- Runs that grow at their end, and a part that is swept from its start on.
use Rattle.std.proofs.Common.{◌≡◌, ◌≢◌, ◌+◌, ◌-◌, ◌<◌, ◌≤◌, ◌⊎◌, ◌↔◌, ◌++◌, ℕ, suc, List, [], ◌∷◌, length, get_or, map, refl, sym, ap, ◌∙◌, subst, inl, inr, arith}
use Rattle.std.specs.List.{Contains}
use Rattle.std.proofs.Common.{drop, add-one}
use Rattle.std.proofs.Math.Seq.{drop-cons}
use Rattle.druid_timeline.proofs.RunsLemmas.{AreRuns-first, AreRuns-rest, Shows-beyond}
use Rattle.std.proofs.lemmas.Bool.{cases_lt, cases_order}
use Rattle.std.proofs.lemmas.List.{map-append}
use Rattle.druid_time.specs.Extent.{Extent, Has}
use Rattle.druid_segment_id.specs.Group.{Group}
use Rattle.druid_base.proofs.MemberLemmas.{Contains-nil, Contains-cons}
use Rattle.druid_timeline.specs.Pieces.{Shown, shown_at, IsStretch, AreRuns, Shows}
use Rattle.druid_timeline.specs.Stretches.{EndBy}

-- ---- what joined lists of runs show

pub Shows-left : (xs ys : List Shown) (t : ℕ) (g : Group) → Shows xs t g → Shows (xs ++ ys) t g
Shows-left [] ys t g h = absurd h
Shows-left (x ∷ xs) ys t g (inl here) = inl here
Shows-left (x ∷ xs) ys t g (inr later) = inr (Shows-left xs ys t g later)

pub Shows-right : (xs ys : List Shown) (t : ℕ) (g : Group) → Shows ys t g → Shows (xs ++ ys) t g
Shows-right [] ys t g h = h
Shows-right (x ∷ xs) ys t g h = inr (Shows-right xs ys t g h)

pub Shows-cases : (xs ys : List Shown) (t : ℕ) (g : Group) → Shows (xs ++ ys) t g → Shows xs t g ⊎ Shows ys t g
Shows-cases [] ys t g h = inr h
Shows-cases (x ∷ xs) ys t g (inl here) = inl (inl here)
Shows-cases (x ∷ xs) ys t g (inr later) = elim (Shows-cases xs ys t g later) [
  | inl front ↦ inl (inr front)
  | inr back ↦ inr back
]

-- the run shows the chunk g at t
abbrev pub ShowsOne : Shown → ℕ → Group → Type 0
ShowsOne s t g = (s.group ≡ g) × Has s.interval t

pub Shows-push : (xs : List Shown) (s : Shown) (t : ℕ) (g : Group) → Shows (xs ++ s ∷ []) t g ↔ (Shows xs t g ⊎ ShowsOne s t g)
Shows-push xs s t g = (λ h. forth (Shows-cases xs (s ∷ []) t g h), back) where
  forth : Shows xs t g ⊎ Shows (s ∷ []) t g → Shows xs t g ⊎ ShowsOne s t g
  forth (inl front) = inl front
  forth (inr (inl here)) = inr here
  forth (inr (inr none)) = absurd none

  back : Shows xs t g ⊎ ShowsOne s t g → Shows (xs ++ s ∷ []) t g
  back (inl front) = Shows-left xs (s ∷ []) t g front
  back (inr here) = Shows-right xs (s ∷ []) t g (inl here)

-- ---- runs that grow at their end

pub AreRuns-last : (front : List Shown) (a : Shown) → AreRuns (front ++ a ∷ []) → IsStretch a
AreRuns-last [] a h = h
AreRuns-last (x ∷ []) a h = h.3
AreRuns-last (x ∷ y ∷ front) a h = AreRuns-last (y ∷ front) a h.3

AreRuns-push : (front : List Shown) (a b : Shown) → AreRuns (front ++ a ∷ []) → a.interval.end ≤ b.interval.start → (a.interval.end ≡ b.interval.start → a.group ≢ b.group) → IsStretch b → AreRuns ((front ++ a ∷ []) ++ b ∷ [])
AreRuns-push [] a b h le ne st = (h, le, ne, st)
AreRuns-push (x ∷ []) a b h le ne st = (h.0, h.1, h.2, AreRuns-push [] a b h.3 le ne st)
AreRuns-push (x ∷ y ∷ front) a b h le ne st = (h.0, h.1, h.2, AreRuns-push (y ∷ front) a b h.3 le ne st)

-- a run with another end
abbrev pub until : Shown → ℕ → Shown
until a e = record { interval = record { start = a.interval.start; end = e }; group = a.group }

AreRuns-until : (front : List Shown) (a : Shown) (e : ℕ) → AreRuns (front ++ a ∷ []) → a.interval.end ≤ e → AreRuns (front ++ until a e ∷ [])
AreRuns-until [] a e h le = let st : a.interval.start < a.interval.end = h in omega arith
AreRuns-until (x ∷ []) a e h le = (h.0, h.1, h.2, AreRuns-until [] a e h.3 le)
AreRuns-until (x ∷ y ∷ front) a e h le = (h.0, h.1, h.2, AreRuns-until (y ∷ front) a e h.3 le)

EndBy-last : (front : List Shown) (a : Shown) (t : ℕ) → EndBy (front ++ a ∷ []) t → IsStretch a → a.interval.end ≤ t
EndBy-last front a t h st =
    let stretch : a.interval.start < a.interval.end = st in
    let at = h (a.interval.end - 1) a.group ((Shows-push front a (a.interval.end - 1) a.group).1 (inr (refl, (omega arith, omega arith)))) in
    omega arith

Shows-until : (front : List Shown) (a b : Shown) (t : ℕ) (g : Group) → IsStretch a → IsStretch b → a.interval.end ≡ b.interval.start → a.group ≡ b.group
    → Shows (front ++ until a b.interval.end ∷ []) t g ↔ (Shows (front ++ a ∷ []) t g ⊎ ShowsOne b t g)
Shows-until front a b t g sta stb touch same =
    (λ h. forth ((Shows-push front (until a b.interval.end) t g).0 h), λ h. (Shows-push front (until a b.interval.end) t g).1 (back h)) where
      forth : Shows front t g ⊎ ShowsOne (until a b.interval.end) t g → Shows (front ++ a ∷ []) t g ⊎ ShowsOne b t g
      forth (inl before) = inl ((Shows-push front a t g).1 (inl before))
      forth (inr here) = elim (cases_order t a.interval.end) [
        | inl level ↦ inr (sym same ∙ here.0, (let l : t ≡ a.interval.end = level in omega arith, here.1.1))
        | inr (inl below) ↦ inl ((Shows-push front a t g).1 (inr (here.0, (here.1.0, below))))
        | inr (inr above) ↦ inr (sym same ∙ here.0, (let l : a.interval.end < t = above in omega arith, here.1.1))
      ]

      in_a : Shows front t g ⊎ ShowsOne a t g → Shows front t g ⊎ ShowsOne (until a b.interval.end) t g
      in_a (inl before) = inl before
      in_a (inr here) =
          let st : b.interval.start < b.interval.end = stb in
          let stops : t < a.interval.end = here.1.1 in
          inr (here.0, (here.1.0, omega arith))

      back : Shows (front ++ a ∷ []) t g ⊎ ShowsOne b t g → Shows front t g ⊎ ShowsOne (until a b.interval.end) t g
      back (inl h) = in_a ((Shows-push front a t g).0 h)
      back (inr here) =
          let st : a.interval.start < a.interval.end = sta in
          let from : b.interval.start ≤ t = here.1.0 in
          inr (same ∙ here.0, (omega arith, here.1.1))

-- ---- a run after others

-- a run, as a timeline keeps it
abbrev pub Run : Type 0
Run = Extent × Group

-- new is old with the run after it, where that is joined to the last if it goes on
pub record IsPushed (old new : List Run) (run : Run) : Type 0 where
  pub runs : AreRuns (map shown_at new)
  pub shows : (t : ℕ) (g : Group) → Shows (map shown_at new) t g ↔ (Shows (map shown_at old) t g ⊎ ((run.1 ≡ g) × Has run.0 t))

map_push : (xs : List Run) (r : Run) → map shown_at (xs ++ r ∷ []) ≡ map shown_at xs ++ shown_at r ∷ []
map_push xs r = map-append shown_at xs (r ∷ [])

first : (run : Run) → IsStretch (shown_at run) → IsPushed [] (run ∷ []) run
first run st = record {
  runs = st;
  shows = λ t g. Shows-push [] (shown_at run) t g;
}

-- the run that two make
abbrev pub joined : Run → Run → Run
joined a b = (record { start = a.0.start; end = b.0.end }, a.1)

pub IsPushed-joined : (old rest new : List Run) (last run : Run) → old ≡ rest ++ last ∷ [] → new ≡ rest ++ joined last run ∷ [] → AreRuns (map shown_at old) → IsStretch (shown_at run)
    → last.0.end ≡ run.0.start → last.1 ≡ run.1 → IsPushed old new run
IsPushed-joined old rest new last run e f runs st touch same = record {
  runs =
      let stretch : run.0.start < run.0.end = st in
      subst AreRuns (sym new_shown) (AreRuns-until (map shown_at rest) (shown_at last) run.0.end were (omega arith));
  shows = λ t g.
      let now = Shows-until (map shown_at rest) (shown_at last) (shown_at run) t g (AreRuns-last (map shown_at rest) (shown_at last) were) st touch same in
      subst (λ (xs : List Shown). Shows xs t g ↔ (Shows (map shown_at old) t g ⊎ ShowsOne (shown_at run) t g)) (sym new_shown)
      (subst (λ (xs : List Shown). Shows (map shown_at rest ++ until (shown_at last) run.0.end ∷ []) t g ↔ (Shows xs t g ⊎ ShowsOne (shown_at run) t g)) (sym old_shown) now);
} where
  old_shown : map shown_at old ≡ map shown_at rest ++ shown_at last ∷ []
  old_shown = ap (map shown_at) e ∙ map_push rest last

  new_shown : map shown_at new ≡ map shown_at rest ++ until (shown_at last) run.0.end ∷ []
  new_shown = ap (map shown_at) f ∙ map_push rest (joined last run)

  were : AreRuns (map shown_at rest ++ shown_at last ∷ [])
  were = subst AreRuns old_shown runs

pub IsPushed-beyond : (old rest new : List Run) (last run : Run) → old ≡ rest ++ last ∷ [] → new ≡ (rest ++ last ∷ []) ++ run ∷ [] → AreRuns (map shown_at old) → IsStretch (shown_at run)
    → EndBy (map shown_at old) run.0.start → ((last.0.end ≡ run.0.start) × (last.1 ≡ run.1) → ⊥) → IsPushed old new run
IsPushed-beyond old rest new last run e f runs st beyond apart = record {
  runs =
      let at = EndBy-last (map shown_at rest) (shown_at last) run.0.start (subst (λ (xs : List Shown). EndBy xs run.0.start) old_shown beyond) (AreRuns-last (map shown_at rest) (shown_at last) were) in
      subst AreRuns (sym new_shown) (AreRuns-push (map shown_at rest) (shown_at last) (shown_at run) were at (λ touch same. apart (touch, same)) st);
  shows = λ t g.
      subst (λ (xs : List Shown). Shows xs t g ↔ (Shows (map shown_at old) t g ⊎ ShowsOne (shown_at run) t g)) (sym (new_shown ∙ ap (λ (xs : List Shown). xs ++ shown_at run ∷ []) (sym old_shown)))
      (Shows-push (map shown_at old) (shown_at run) t g);
} where
  old_shown : map shown_at old ≡ map shown_at rest ++ shown_at last ∷ []
  old_shown = ap (map shown_at) e ∙ map_push rest last

  new_shown : map shown_at new ≡ (map shown_at rest ++ shown_at last ∷ []) ++ shown_at run ∷ []
  new_shown = ap (map shown_at) f ∙ map_push (rest ++ last ∷ []) run ∙ ap (λ (xs : List Shown). xs ++ shown_at run ∷ []) (map_push rest last)

  were : AreRuns (map shown_at rest ++ shown_at last ∷ [])
  were = subst AreRuns old_shown runs

-- ---- what is seen of a part, from its start on

-- what is seen from the start of the part to an instant is added to the runs
pub record IsSwept (part : Extent) (seen : ℕ → Group → Type 0) (old new : List Run) (from : ℕ) : Type 0 where
  pub low : part.start ≤ from
  pub high : from ≤ part.end
  pub runs : AreRuns (map shown_at new)
  pub shows : (t : ℕ) (g : Group) → Shows (map shown_at new) t g ↔ (Shows (map shown_at old) t g ⊎ (((part.start ≤ t) × (t < from)) × seen t g))

pub IsSwept-start : (part : Extent) (seen : ℕ → Group → Type 0) (old : List Run) → part.start < part.end → AreRuns (map shown_at old) → IsSwept part seen old old part.start
IsSwept-start part seen old order runs = record {
  low = omega arith;
  high = omega (arith, order);
  runs = runs;
  shows = λ t g. (λ s. inl s, λ s. by_place t g s);
} where
  by_place : (t : ℕ) (g : Group) → Shows (map shown_at old) t g ⊎ (((part.start ≤ t) × (t < part.start)) × seen t g) → Shows (map shown_at old) t g
  by_place t g (inl before) = before
  by_place t g (inr here) =
      let low : part.start ≤ t = here.0.0 in
      let high : t < part.start = here.0.1 in
      absurd (omega (arith, low, high))

pub IsSwept-beyond : (part : Extent) (seen : ℕ → Group → Type 0) (old new : List Run) (from : ℕ) → IsSwept part seen old new from → EndBy (map shown_at old) part.start → EndBy (map shown_at new) from
IsSwept-beyond part seen old new from h beyond t g s = by_place ((h.shows t g).0 s) where
  by_place : Shows (map shown_at old) t g ⊎ (((part.start ≤ t) × (t < from)) × seen t g) → t < from
  by_place (inl before) = let b = beyond t g before in let low = h.low in omega (arith, b, low)
  by_place (inr here) = here.0.1

-- what is seen between two instants, where that is the same chunk, or none
abbrev pub SeenBetween : (ℕ → Group → Type 0) → ℕ → ℕ → (Group → Type 0) → Type 0
SeenBetween seen from to shown = (t : ℕ) → from ≤ t → t < to → (g : Group) → seen t g ↔ shown g

-- one stretch more
pub IsSwept-add : (part : Extent) (seen : ℕ → Group → Type 0) (old new newer : List Run) (from to : ℕ) (shown : Group → Type 0) → IsSwept part seen old new from → from ≤ to → to ≤ part.end
    → AreRuns (map shown_at newer) → SeenBetween seen from to shown
    → ((t : ℕ) (g : Group) → Shows (map shown_at newer) t g ↔ (Shows (map shown_at new) t g ⊎ (shown g × ((from ≤ t) × (t < to)))))
    → IsSwept part seen old newer to
IsSwept-add part seen old new newer from to shown h order high runs same shows = record {
  low = let low = h.low in omega (arith, low, order);
  high = high;
  runs = runs;
  shows = λ t g. (λ s. forth t g ((shows t g).0 s), λ s. (shows t g).1 (back t g s));
} where
  before_to : (t : ℕ) (g : Group) → Shows (map shown_at old) t g ⊎ (((part.start ≤ t) × (t < from)) × seen t g) → Shows (map shown_at old) t g ⊎ (((part.start ≤ t) × (t < to)) × seen t g)
  before_to t g (inl before) = inl before
  before_to t g (inr here) = let high : t < from = here.0.1 in inr ((here.0.0, omega (arith, high, order)), here.1)

  forth : (t : ℕ) (g : Group) → Shows (map shown_at new) t g ⊎ (shown g × ((from ≤ t) × (t < to))) → Shows (map shown_at old) t g ⊎ (((part.start ≤ t) × (t < to)) × seen t g)
  forth t g (inl before) = before_to t g ((h.shows t g).0 before)
  forth t g (inr here) =
      let low : from ≤ t = here.1.0 in
      let start = h.low in
      inr ((omega (arith, low, start), here.1.1), (same t here.1.0 here.1.1 g).1 here.0)

  back : (t : ℕ) (g : Group) → Shows (map shown_at old) t g ⊎ (((part.start ≤ t) × (t < to)) × seen t g) → Shows (map shown_at new) t g ⊎ (shown g × ((from ≤ t) × (t < to)))
  back t g (inl before) = inl ((h.shows t g).1 (inl before))
  back t g (inr here) = elim (cases_lt t from) [
    | inl below ↦ inl ((h.shows t g).1 (inr ((here.0.0, below), here.1)))
    | inr beyond ↦ inr ((same t beyond here.0.1 g).0 here.1, (beyond, here.0.1))
  ]

-- where nothing is seen up to the next instant
pub IsSwept-none : (part : Extent) (seen : ℕ → Group → Type 0) (old new : List Run) (from to : ℕ) → IsSwept part seen old new from → from ≤ to → to ≤ part.end → ((t : ℕ) → from ≤ t → t < to → (g : Group) → seen t g → ⊥) → IsSwept part seen old new to
IsSwept-none part seen old new from to h order high none =
    IsSwept-add part seen old new new from to (λ _. ⊥) h order high h.runs (λ t low below g. (λ s. none t low below g s, λ f. absurd f))
    (λ t g. (λ s. inl s, only t g)) where
      only : (t : ℕ) (g : Group) → Shows (map shown_at new) t g ⊎ (⊥ × ((from ≤ t) × (t < to))) → Shows (map shown_at new) t g
      only t g (inl s) = s
      only t g (inr h) = absurd h.0

pub IsSwept-end : (part : Extent) (seen : ℕ → Group → Type 0) (old new : List Run) (from : ℕ) → IsSwept part seen old new from → part.end ≤ from
    → (t : ℕ) (g : Group) → Shows (map shown_at new) t g ↔ (Shows (map shown_at old) t g ⊎ (Has part t × seen t g))
IsSwept-end part seen old new from h done t g =
    let high = h.high in
    let e : from ≡ part.end = omega (arith, high, done) in
    subst (λ (x : ℕ). Shows (map shown_at new) t g ↔ (Shows (map shown_at old) t g ⊎ (((part.start ≤ t) × (t < x)) × seen t g))) e (h.shows t g)

-- a chunk is shown at an instant, and no other
pub Shows-one : (ps : List Shown) (t : ℕ) (g k : Group) → AreRuns ps → Shows ps t g → Shows ps t k → g ≡ k
Shows-one [] t g k runs s q = absurd s
Shows-one (a ∷ more) t g k runs (inl s) (inl q) = sym s.0 ∙ q.0
Shows-one (a ∷ more) t g k runs (inl s) (inr q) = let beyond = Shows-beyond a more t k runs q in let stops : t < a.interval.end = s.1.1 in absurd (omega (arith, beyond, stops))
Shows-one (a ∷ more) t g k runs (inr s) (inl q) = let beyond = Shows-beyond a more t g runs s in let stops : t < a.interval.end = q.1.1 in absurd (omega (arith, beyond, stops))
Shows-one (a ∷ more) t g k runs (inr s) (inr q) = Shows-one more t g k (AreRuns-rest a more runs) s q

-- ---- lists by their places

-- what is left at a place is the item there, and what is left after it
pub drop_next : {X : Type 0} (xs : List X) (i : ℕ) (x : X) → i < length xs → x ≡ get_or xs i x → drop i xs ≡ x ∷ drop (i + 1) xs
drop_next {X} xs i x l e =
    drop-cons xs i x l ∙ ap (λ (y : X). y ∷ drop (suc i) xs) (sym e) ∙ ap (λ (k : ℕ). x ∷ drop k xs) (sym (add-one i))

pub AreRuns-stretch : (rs : List Run) → AreRuns (map shown_at rs) → (r : Run) → Contains rs r → IsStretch (shown_at r)
AreRuns-stretch [] runs r there = absurd (Contains-nil r there)
AreRuns-stretch (x ∷ rs) runs r there = elim (Contains-cons x rs r there) [
  | inl same ↦ subst (λ (q : Run). IsStretch (shown_at q)) same (AreRuns-first (shown_at x) (map shown_at rs) runs)
  | inr later ↦ AreRuns-stretch rs (AreRuns-rest (shown_at x) (map shown_at rs) runs) r later
]
