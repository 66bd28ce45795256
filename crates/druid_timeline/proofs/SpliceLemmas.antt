-- Runs of which a part is replaced.
use Rattle.std.proofs.Common.{◌≡◌, ◌≢◌, ◌+◌, ◌-◌, ◌<◌, ◌≤◌, ◌⊎◌, ◌↔◌, ◌++◌, ℕ, suc, List, [], ◌∷◌, length, get_or, map, take, drop, refl, sym, ap, ◌∙◌, subst, inl, inr, arith}
use Rattle.std.specs.List.{Contains}
use Rattle.std.proofs.lemmas.Bool.{cases_lt}
use Rattle.std.proofs.lemmas.List.{map-append, take-append-drop, take_more, drop_all}
use Rattle.std.proofs.lemmas.List.Elements.{Contains-push}
use Rattle.druid_time.specs.Extent.{Extent, Has}
use Rattle.druid_segment_id.specs.Group.{Group}
use Rattle.druid_base.proofs.MemberLemmas.{Contains-nil, Contains-cons, Contains-later}
use Rattle.druid_timeline.specs.Edited.{AreRunsEdited, spliced}
use Rattle.druid_timeline.specs.Pieces.{Shown, shown_at, AreRuns, Shows}
use Rattle.druid_timeline.proofs.CutLemmas.{AreRuns-cons}
use Rattle.druid_timeline.proofs.RunsLemmas.{AreRuns-first, AreRuns-rest, Shows-from_start, Shows-beyond, Shows-at_end}
use Rattle.druid_timeline.proofs.SweepLemmas.{Run, Shows-left, Shows-right, Shows-cases, Shows-push, ShowsOne, AreRuns-last, drop_next}

-- ---- two lists of runs after each other

pub AreRuns-left : (xs ys : List Shown) → AreRuns (xs ++ ys) → AreRuns xs
AreRuns-left [] ys h = tt
AreRuns-left (a ∷ []) ys h = AreRuns-first a ys h
AreRuns-left (a ∷ b ∷ xs) ys h = (h.0, h.1, h.2, AreRuns-left (b ∷ xs) ys h.3)

pub AreRuns-right : (xs ys : List Shown) → AreRuns (xs ++ ys) → AreRuns ys
AreRuns-right [] ys h = h
AreRuns-right (a ∷ xs) ys h = AreRuns-right xs ys (AreRuns-rest a (xs ++ ys) h)

-- those before show earlier instants
pub Shows-order : (xs ys : List Shown) (t u : ℕ) (g k : Group) → AreRuns (xs ++ ys) → Shows xs t g → Shows ys u k → t < u
Shows-order [] ys t u g k h none later = absurd none
Shows-order (a ∷ xs) ys t u g k h (inl here) later =
    let beyond = Shows-beyond a (xs ++ ys) u k h (Shows-right xs ys u k later) in
    let stops : t < a.interval.end = here.1.1 in
    omega arith
Shows-order (a ∷ xs) ys t u g k h (inr before) later =
    Shows-order xs ys t u g k (AreRuns-rest a (xs ++ ys) h) before later

-- where one list touches the next, the chunk changes
pub Shows-seam : (xs ys : List Shown) (t : ℕ) (g : Group) → AreRuns (xs ++ ys) → Shows xs t g → Shows ys (suc t) g → ⊥
Shows-seam [] ys t g h none later = none
Shows-seam (a ∷ xs) ys t g h (inl here) later =
    let after = Shows-right xs ys (suc t) g later in
    let beyond = Shows-beyond a (xs ++ ys) (suc t) g h after in
    let stops : t < a.interval.end = here.1.1 in
    let e : suc t ≡ a.interval.end = omega arith in
    Shows-at_end a (xs ++ ys) g h (subst (λ (u : ℕ). Shows (xs ++ ys) u g) e after) here.0
Shows-seam (a ∷ xs) ys t g h (inr before) later = Shows-seam xs ys t g (AreRuns-rest a (xs ++ ys) h) before later

pub AreRuns-join : (xs ys : List Shown) → AreRuns xs → AreRuns ys → ((t u : ℕ) (g k : Group) → Shows xs t g → Shows ys u k → t < u) → ((t : ℕ) (g : Group) → Shows xs t g → Shows ys (suc t) g → ⊥) → AreRuns (xs ++ ys)
AreRuns-join [] ys hx hy order seam = hy
AreRuns-join (a ∷ xs) ys hx hy order seam =
    AreRuns-cons a (xs ++ ys) (AreRuns-first a xs hx)
    (AreRuns-join xs ys (AreRuns-rest a xs hx) hy (λ t u g k s. order t u g k (inr s)) (λ t g s. seam t g (inr s)))
    (λ t g s. after t g (Shows-cases xs ys t g s)) (λ g s. changes g (Shows-cases xs ys a.interval.end g s)) where
      stretch : a.interval.start < a.interval.end
      stretch = AreRuns-first a xs hx

      at_last : Shows (a ∷ xs) (a.interval.end - 1) a.group
      at_last = let st = stretch in inl (refl, (omega arith, omega arith))

      after : (t : ℕ) (g : Group) → Shows xs t g ⊎ Shows ys t g → a.interval.end ≤ t
      after t g (inl s) = Shows-beyond a xs t g hx s
      after t g (inr s) = let l = order (a.interval.end - 1) t a.group g at_last s in let st = stretch in omega arith

      changes : (g : Group) → Shows xs a.interval.end g ⊎ Shows ys a.interval.end g → a.group ≢ g
      changes g (inl s) = Shows-at_end a xs g hx s
      changes g (inr s) = λ same.
          let st = stretch in
          let e : a.interval.end ≡ suc (a.interval.end - 1) = omega arith in
          seam (a.interval.end - 1) a.group at_last (subst (λ (k : Group). Shows ys (suc (a.interval.end - 1)) k) (sym same) (subst (λ (u : ℕ). Shows ys u g) e s))

-- ---- the middle replaced

-- what the rest shows before the part, what is seen in it, and what the front shows after it
abbrev pub InMiddle : Extent → (ℕ → Group → Type 0) → List Shown → List Shown → ℕ → Group → Type 0
InMiddle part seen rest front t g =
    ((Shows rest t g × (t < part.start)) ⊎ (Has part t × seen t g)) ⊎ (Shows front t g × (part.end ≤ t))

abbrev pub MiddleShows : Extent → (ℕ → Group → Type 0) → List Shown → List Shown → List Shown → Type 0
MiddleShows part seen rest front middle = (t : ℕ) (g : Group) → Shows middle t g ↔ InMiddle part seen rest front t g

pub AreRunsEdited-middle : (part : Extent) (seen : ℕ → Group → Type 0) (old before rest front after middle : List Shown) → part.start < part.end
    → before ++ rest ≡ old → front ++ after ≡ old → AreRuns old → AreRuns middle
    → ((t : ℕ) (g : Group) → Shows before t g → suc t < part.start) → ((t : ℕ) (g : Group) → Shows after t g → part.end < t)
    → MiddleShows part seen rest front middle → AreRunsEdited part seen old (before ++ middle ++ after)
AreRunsEdited-middle part seen old before rest front after middle order split split' runs mid early late shows = record {
  runs = AreRuns-join (before ++ middle) after first_two (AreRuns-right front after halves) order_two seam_two;
  inside = λ t g has. (λ s. inside t g has (three t g s), λ best. Shows-left (before ++ middle) after t g (Shows-right before middle t g ((shows t g).1 (inl (inr (has, best))))));
  outside = λ t g not. (λ s. outside t g not (three t g s), back t g not);
} where
  parts : AreRuns (before ++ rest)
  parts = subst AreRuns (sym split) runs

  halves : AreRuns (front ++ after)
  halves = subst AreRuns (sym split') runs

  order_one : (t u : ℕ) (g k : Group) → Shows before t g → InMiddle part seen rest front u k → t < u
  order_one t u g k s (inl (inl m)) = Shows-order before rest t u g k parts s m.0
  order_one t u g k s (inl (inr m)) = let e = early t g s in let l : part.start ≤ u = m.0.0 in omega arith
  order_one t u g k s (inr m) = let e = early t g s in let l = m.1 in let o = order in omega arith

  seam_one : (t : ℕ) (g : Group) → Shows before t g → InMiddle part seen rest front (suc t) g → ⊥
  seam_one t g s (inl (inl m)) = Shows-seam before rest t g parts s m.0
  seam_one t g s (inl (inr m)) = let e = early t g s in let l : part.start ≤ suc t = m.0.0 in omega arith
  seam_one t g s (inr m) = let e = early t g s in let l = m.1 in let o = order in omega arith

  first_two : AreRuns (before ++ middle)
  first_two =
      AreRuns-join before middle (AreRuns-left before rest parts) mid
      (λ t u g k s m. order_one t u g k s ((shows u k).0 m)) (λ t g s m. seam_one t g s ((shows (suc t) g).0 m))

  two : (t : ℕ) (g : Group) → Shows (before ++ middle) t g → Shows before t g ⊎ InMiddle part seen rest front t g
  two t g s = elim (Shows-cases before middle t g s) [ inl b ↦ inl b | inr m ↦ inr ((shows t g).0 m) ]

  order_cases : (t u : ℕ) (g k : Group) → Shows before t g ⊎ InMiddle part seen rest front t g → Shows after u k → t < u
  order_cases t u g k (inl s) a = let e = early t g s in let l = late u k a in let o = order in omega arith
  order_cases t u g k (inr (inl (inl m))) a = let e = m.1 in let l = late u k a in let o = order in omega arith
  order_cases t u g k (inr (inl (inr m))) a = let e : t < part.end = m.0.1 in let l = late u k a in omega arith
  order_cases t u g k (inr (inr m)) a = Shows-order front after t u g k halves m.0 a

  order_two : (t u : ℕ) (g k : Group) → Shows (before ++ middle) t g → Shows after u k → t < u
  order_two t u g k s a = order_cases t u g k (two t g s) a

  seam_cases : (t : ℕ) (g : Group) → Shows before t g ⊎ InMiddle part seen rest front t g → Shows after (suc t) g → ⊥
  seam_cases t g (inl s) a = let e = early t g s in let l = late (suc t) g a in let o = order in omega arith
  seam_cases t g (inr (inl (inl m))) a = let e = m.1 in let l = late (suc t) g a in let o = order in omega arith
  seam_cases t g (inr (inl (inr m))) a = let e : t < part.end = m.0.1 in let l = late (suc t) g a in omega arith
  seam_cases t g (inr (inr m)) a = Shows-seam front after t g halves m.0 a

  seam_two : (t : ℕ) (g : Group) → Shows (before ++ middle) t g → Shows after (suc t) g → ⊥
  seam_two t g s a = seam_cases t g (two t g s) a

  three : (t : ℕ) (g : Group) → Shows (before ++ middle ++ after) t g → (Shows before t g ⊎ InMiddle part seen rest front t g) ⊎ Shows after t g
  three t g s = elim (Shows-cases (before ++ middle) after t g s) [ inl b ↦ inl (two t g b) | inr a ↦ inr a ]

  inside : (t : ℕ) (g : Group) → Has part t → (Shows before t g ⊎ InMiddle part seen rest front t g) ⊎ Shows after t g → seen t g
  inside t g has (inl (inl s)) = let e = early t g s in let l : part.start ≤ t = has.0 in absurd (omega arith)
  inside t g has (inl (inr (inl (inl m)))) = let e = m.1 in let l : part.start ≤ t = has.0 in absurd (omega arith)
  inside t g has (inl (inr (inl (inr m)))) = m.1
  inside t g has (inl (inr (inr m))) = let e = m.1 in let l : t < part.end = has.1 in absurd (omega arith)
  inside t g has (inr a) = let e = late t g a in let l : t < part.end = has.1 in absurd (omega arith)

  outside : (t : ℕ) (g : Group) → (Has part t → ⊥) → (Shows before t g ⊎ InMiddle part seen rest front t g) ⊎ Shows after t g → Shows old t g
  outside t g not (inl (inl s)) = subst (λ (xs : List Shown). Shows xs t g) split (Shows-left before rest t g s)
  outside t g not (inl (inr (inl (inl m)))) = subst (λ (xs : List Shown). Shows xs t g) split (Shows-right before rest t g m.0)
  outside t g not (inl (inr (inl (inr m)))) = absurd (not m.0)
  outside t g not (inl (inr (inr m))) = subst (λ (xs : List Shown). Shows xs t g) split' (Shows-left front after t g m.0)
  outside t g not (inr a) = subst (λ (xs : List Shown). Shows xs t g) split' (Shows-right front after t g a)

  middle_shows : (t : ℕ) (g : Group) → InMiddle part seen rest front t g → Shows (before ++ middle ++ after) t g
  middle_shows t g m = Shows-left (before ++ middle) after t g (Shows-right before middle t g ((shows t g).1 m))

  back_early : (t : ℕ) (g : Group) → t < part.start → Shows before t g ⊎ Shows rest t g → Shows (before ++ middle ++ after) t g
  back_early t g l (inl s) = Shows-left (before ++ middle) after t g (Shows-left before middle t g s)
  back_early t g l (inr s) = middle_shows t g (inl (inl (s, l)))

  back_late : (t : ℕ) (g : Group) → part.end ≤ t → Shows front t g ⊎ Shows after t g → Shows (before ++ middle ++ after) t g
  back_late t g l (inl s) = middle_shows t g (inr (s, l))
  back_late t g l (inr s) = Shows-right (before ++ middle) after t g s

  back : (t : ℕ) (g : Group) → (Has part t → ⊥) → Shows old t g → Shows (before ++ middle ++ after) t g
  back t g not s = elim (cases_lt t part.start) [
    | inl l ↦ back_early t g l (Shows-cases before rest t g (subst (λ (xs : List Shown). Shows xs t g) (sym split) s))
    | inr from ↦ elim (cases_lt t part.end) [
      | inl l ↦ absurd (not (from, l))
      | inr l ↦ back_late t g l (Shows-cases front after t g (subst (λ (xs : List Shown). Shows xs t g) (sym split') s))
    ]
  ]

-- ---- lists by their places

-- what runs show, one of them shows
pub Shows-member : (rs : List Run) (t : ℕ) (g : Group) → Shows (map shown_at rs) t g → (r : Run) × Contains rs r × (r.1 ≡ g) × Has r.0 t
Shows-member [] t g none = absurd none
Shows-member (r ∷ rs) t g (inl here) = (r, (0, omega arith, refl), here.0, here.1)
Shows-member (r ∷ rs) t g (inr later) =
    let one = Shows-member rs t g later in (one.0, Contains-later r rs one.0 one.1, one.2, one.3)

pub member-Shows : (rs : List Run) (r : Run) (t : ℕ) → Contains rs r → Has r.0 t → Shows (map shown_at rs) t r.1
member-Shows [] r t there has = absurd (Contains-nil r there)
member-Shows (x ∷ rs) r t there has = elim (Contains-cons x rs r there) [
  | inl same ↦ inl (ap (λ (y : Run). y.1) same, subst (λ (y : Run). Has y.0 t) (sym same) has)
  | inr later ↦ inr (member-Shows rs r t later has)
]

pub split_at : (rs : List Run) (k : ℕ) → map shown_at (take k rs) ++ map shown_at (drop k rs) ≡ map shown_at rs
split_at rs k = sym (map-append shown_at (take k rs) (drop k rs)) ∙ ap (map shown_at) (take-append-drop k rs)

pub runs_drop : (rs : List Run) (k : ℕ) → AreRuns (map shown_at rs) → AreRuns (map shown_at (drop k rs))
runs_drop rs k runs = AreRuns-right (map shown_at (take k rs)) (map shown_at (drop k rs)) (subst AreRuns (sym (split_at rs k)) runs)

pub runs_take : (rs : List Run) (k : ℕ) → AreRuns (map shown_at rs) → AreRuns (map shown_at (take k rs))
runs_take rs k runs = AreRuns-left (map shown_at (take k rs)) (map shown_at (drop k rs)) (subst AreRuns (sym (split_at rs k)) runs)

spliced_shown : (rs middle : List Run) (from to : ℕ) → map shown_at (spliced rs from to middle) ≡ map shown_at (take from rs) ++ map shown_at middle ++ map shown_at (drop to rs)
spliced_shown rs middle from to =
    map-append shown_at (take from rs ++ middle) (drop to rs)
    ∙ ap (λ (xs : List Shown). xs ++ map shown_at (drop to rs)) (map-append shown_at (take from rs) middle)

pub AreRunsEdited-spliced : (part : Extent) (seen : ℕ → Group → Type 0) (rs middle : List Run) (from to : ℕ) → part.start < part.end → AreRuns (map shown_at rs) → AreRuns (map shown_at middle)
    → ((r : Run) → Contains (take from rs) r → r.0.end < part.start) → ((r : Run) → Contains (drop to rs) r → part.end < r.0.start)
    → MiddleShows part seen (map shown_at (drop from rs)) (map shown_at (take to rs)) (map shown_at middle)
    → AreRunsEdited part seen (map shown_at rs) (map shown_at (spliced rs from to middle))
AreRunsEdited-spliced part seen rs middle from to order runs mid early late shows =
    subst (AreRunsEdited part seen (map shown_at rs)) (sym (spliced_shown rs middle from to))
    (AreRunsEdited-middle part seen (map shown_at rs) (map shown_at (take from rs)) (map shown_at (drop from rs)) (map shown_at (take to rs)) (map shown_at (drop to rs)) (map shown_at middle) order
    (split_at rs from) (split_at rs to) runs mid
    (λ t g s. let one = Shows-member (take from rs) t g s in let e = early one.0 one.1 in let l : t < one.0.0.end = one.3.1 in omega arith)
    (λ t g s. let one = Shows-member (drop to rs) t g s in let e = late one.0 one.1 in let l : one.0.0.start ≤ t = one.3.0 in omega arith)
    shows)

-- ---- the rests

-- what a run shows before an instant
abbrev pub until_instant : Run → ℕ → Run
until_instant r t = (record { start = r.0.start; end = t }, r.1)

-- what runs show before an instant at which the first of them has not ended is shown by that one
pub front_shows : (r : Run) (more : List Run) (u : ℕ) → AreRuns (map shown_at (r ∷ more)) → r.0.start < u → u ≤ r.0.end → (t : ℕ) (g : Group)
    → Shows (map shown_at (until_instant r u ∷ [])) t g ↔ (Shows (map shown_at (r ∷ more)) t g × (t < u))
front_shows r more u runs starts stays t g = (forth, back) where
  forth : Shows (map shown_at (until_instant r u ∷ [])) t g → Shows (map shown_at (r ∷ more)) t g × (t < u)
  forth (inl here) =
      let low : r.0.start ≤ t = here.1.0 in
      let high : t < u = here.1.1 in
      (inl (here.0, (low, omega (arith, high, stays))), high)
  forth (inr none) = absurd none

  back : Shows (map shown_at (r ∷ more)) t g × (t < u) → Shows (map shown_at (until_instant r u ∷ [])) t g
  back (inl here, l) = inl (here.0, (here.1.0, l))
  back (inr later, l) =
      let beyond : r.0.end ≤ t = Shows-beyond (shown_at r) (map shown_at more) t g runs later in
      absurd (omega (arith, beyond, l, stays))

-- what runs show from an instant on, before which the last of them has started, is shown by that one
pub back_shows : (front : List Run) (r : Run) (u : ℕ) → AreRuns (map shown_at (front ++ r ∷ [])) → r.0.start ≤ u → (t : ℕ) (g : Group)
    → ((r.1 ≡ g) × Has (record { start = u; end = r.0.end }) t) ↔ (Shows (map shown_at (front ++ r ∷ [])) t g × (u ≤ t))
back_shows front r u runs starts t g =
    subst (λ (xs : List Shown). ((r.1 ≡ g) × Has (record { start = u; end = r.0.end }) t) ↔ (Shows xs t g × (u ≤ t))) (sym e) (forth, λ h. back ((Shows-push (map shown_at front) (shown_at r) t g).0 h.0) h.1) where
      e : map shown_at (front ++ r ∷ []) ≡ map shown_at front ++ shown_at r ∷ []
      e = map-append shown_at front (r ∷ [])

      runs' : AreRuns (map shown_at front ++ shown_at r ∷ [])
      runs' = subst AreRuns e runs

      forth : (r.1 ≡ g) × Has (record { start = u; end = r.0.end }) t → Shows (map shown_at front ++ shown_at r ∷ []) t g × (u ≤ t)
      forth (same, has) =
          let low : u ≤ t = has.0 in
          ((Shows-push (map shown_at front) (shown_at r) t g).1 (inr (same, (omega (arith, low, starts), has.1))), low)

      back : Shows (map shown_at front) t g ⊎ ShowsOne (shown_at r) t g → u ≤ t → (r.1 ≡ g) × Has (record { start = u; end = r.0.end }) t
      back (inl before) low =
          let st : r.0.start < r.0.end = AreRuns-last (map shown_at front) (shown_at r) runs' in
          let l = Shows-order (map shown_at front) (shown_at r ∷ []) t r.0.start g r.1 runs' before (inl (refl, (omega arith, st))) in
          absurd (omega (arith, l, low, starts))
      back (inr here) low = (here.0, (low, here.1.1))

pub no_back : (front : List Run) (r : Run) (u : ℕ) → AreRuns (map shown_at (front ++ r ∷ [])) → r.0.start ≤ u → r.0.end ≤ u → (t : ℕ) (g : Group) → Shows (map shown_at (front ++ r ∷ [])) t g → u ≤ t → ⊥
no_back front r u runs starts ends t g s low =
    let h = (back_shows front r u runs starts t g).1 (s, low) in
    let stops : t < r.0.end = h.1.1 in
    omega (arith, stops, low, ends)

-- ---- the rests, by places

-- the runs before a place end in the one before it
last_taken : (rs : List Run) (to : ℕ) (r : Run) → 0 < to → to ≤ length rs → r ≡ get_or rs (to - 1) r → take to rs ≡ take (to - 1) rs ++ r ∷ []
last_taken rs to r pos le at =
    let e : to ≡ to - 1 + 1 = omega (arith, pos) in
    let l : to - 1 < length rs = omega (arith, pos, le) in
    ap (λ (k : ℕ). take k rs) e ∙ take_more rs (to - 1) r l ∙ ap (λ (x : Run). take (to - 1) rs ++ x ∷ []) (sym at)

started : (rs : List Run) (to u : ℕ) (r : Run) → take to rs ≡ take (to - 1) rs ++ r ∷ [] → ((q : Run) → Contains (take to rs) q → q.0.start ≤ u) → r.0.start ≤ u
started rs to u r e before = before r (subst (λ (xs : List Run). Contains xs r) (sym e) (Contains-push (take (to - 1) rs) r))

pub back_pushed : (rs : List Run) (to u : ℕ) (r : Run) (after : Extent) (old new : List Shown) → 0 < to → to ≤ length rs → r ≡ get_or rs (to - 1) r → AreRuns (map shown_at rs)
    → ((q : Run) → Contains (take to rs) q → q.0.start ≤ u) → after ≡ record { start = u; end = r.0.end }
    → ((t : ℕ) (g : Group) → Shows new t g ↔ (Shows old t g ⊎ ((r.1 ≡ g) × Has after t)))
    → (t : ℕ) (g : Group) → Shows new t g ↔ (Shows old t g ⊎ (Shows (map shown_at (take to rs)) t g × (u ≤ t)))
back_pushed rs to u r after old new pos le at runs before is shows t g =
    (λ s. forth ((shows t g).0 s), λ s. (shows t g).1 (back s)) where
      e : take to rs ≡ take (to - 1) rs ++ r ∷ []
      e = last_taken rs to r pos le at

      same : ((r.1 ≡ g) × Has (record { start = u; end = r.0.end }) t) ↔ (Shows (map shown_at (take (to - 1) rs ++ r ∷ [])) t g × (u ≤ t))
      same = back_shows (take (to - 1) rs) r u (subst (λ (xs : List Run). AreRuns (map shown_at xs)) e (runs_take rs to runs)) (started rs to u r e before) t g

      forth : Shows old t g ⊎ ((r.1 ≡ g) × Has after t) → Shows old t g ⊎ (Shows (map shown_at (take to rs)) t g × (u ≤ t))
      forth (inl was) = inl was
      forth (inr own) =
          let h = same.0 (own.0, subst (λ (x : Extent). Has x t) is own.1) in
          inr (subst (λ (xs : List Run). Shows (map shown_at xs) t g) (sym e) h.0, h.1)

      back : Shows old t g ⊎ (Shows (map shown_at (take to rs)) t g × (u ≤ t)) → Shows old t g ⊎ ((r.1 ≡ g) × Has after t)
      back (inl was) = inl was
      back (inr h) =
          let own = same.1 (subst (λ (xs : List Run). Shows (map shown_at xs) t g) e h.0, h.1) in
          inr (own.0, subst (λ (x : Extent). Has x t) (sym is) own.1)

pub back_unpushed : (rs : List Run) (to u : ℕ) (r : Run) (old : List Shown) → 0 < to → to ≤ length rs → r ≡ get_or rs (to - 1) r → AreRuns (map shown_at rs)
    → ((q : Run) → Contains (take to rs) q → q.0.start ≤ u) → (u < r.0.end → ⊥)
    → (t : ℕ) (g : Group) → Shows old t g ↔ (Shows old t g ⊎ (Shows (map shown_at (take to rs)) t g × (u ≤ t)))
back_unpushed rs to u r old pos le at runs before not t g = (λ s. inl s, back) where
  e : take to rs ≡ take (to - 1) rs ++ r ∷ []
  e = last_taken rs to r pos le at

  ended : r.0.end ≤ u
  ended = elim (cases_lt u r.0.end) [ inl lt ↦ absurd (not lt) | inr le ↦ le ]

  back : Shows old t g ⊎ (Shows (map shown_at (take to rs)) t g × (u ≤ t)) → Shows old t g
  back (inl was) = was
  back (inr h) =
      absurd (no_back (take (to - 1) rs) r u (subst (λ (xs : List Run). AreRuns (map shown_at xs)) e (runs_take rs to runs)) (started rs to u r e before) ended t g
      (subst (λ (xs : List Run). Shows (map shown_at xs) t g) e h.0) h.1)

pub front_pushed : (rs : List Run) (from u : ℕ) (r : Run) (front : List Run) (before : Extent) (key : Group) → from < length rs → r ≡ get_or rs from r → AreRuns (map shown_at rs)
    → ((q : Run) → Contains (drop from rs) q → u ≤ q.0.end) → before ≡ record { start = r.0.start; end = u } → r.0.start < u → key ≡ r.1 → front ≡ (before, key) ∷ []
    → (t : ℕ) (g : Group) → Shows (map shown_at front) t g ↔ (Shows (map shown_at (drop from rs)) t g × (t < u))
front_pushed rs from u r front before key l at runs rest is starts same e t g =
    let next = drop_next rs from r l at in
    let tail = subst (λ (xs : List Run). AreRuns (map shown_at xs)) next (runs_drop rs from runs) in
    let stays = rest r (subst (λ (xs : List Run). Contains xs r) (sym next) (0, omega arith, refl)) in
    let shape : front ≡ until_instant r u ∷ [] = e ∙ (λ i. (is i, same i) ∷ []) in
    subst (λ (xs : List Run). Shows (map shown_at xs) t g ↔ (Shows (map shown_at (drop from rs)) t g × (t < u))) (sym shape)
    (subst (λ (xs : List Run). Shows (map shown_at (until_instant r u ∷ [])) t g ↔ (Shows (map shown_at xs) t g × (t < u))) (sym next)
    (front_shows r (drop (from + 1) rs) u tail starts stays t g))

pub front_unpushed : (rs : List Run) (from u : ℕ) (r : Run) (front : List Run) → from < length rs → r ≡ get_or rs from r → AreRuns (map shown_at rs) → (r.0.start < u → ⊥) → front ≡ []
    → (t : ℕ) (g : Group) → Shows (map shown_at front) t g ↔ (Shows (map shown_at (drop from rs)) t g × (t < u))
front_unpushed rs from u r front l at runs not e t g =
    let next = drop_next rs from r l at in
    let tail = subst (λ (xs : List Run). AreRuns (map shown_at xs)) next (runs_drop rs from runs) in
    subst (λ (xs : List Run). Shows (map shown_at xs) t g ↔ (Shows (map shown_at (drop from rs)) t g × (t < u))) (sym e)
    (subst (λ (xs : List Run). Shows (map shown_at []) t g ↔ (Shows (map shown_at xs) t g × (t < u))) (sym next) (
      λ none. absurd none,
      λ h.
          let low : r.0.start ≤ t = Shows-from_start (shown_at r) (map shown_at (drop (from + 1) rs)) t g tail h.0 in
          absurd (not (omega (arith, low, h.1))),
    ))

pub front_none : (rs : List Run) (from u : ℕ) (front : List Run) → length rs ≤ from → front ≡ [] → (t : ℕ) (g : Group) → Shows (map shown_at front) t g ↔ (Shows (map shown_at (drop from rs)) t g × (t < u))
front_none rs from u front past e t g =
    subst (λ (xs : List Run). Shows (map shown_at xs) t g ↔ (Shows (map shown_at (drop from rs)) t g × (t < u))) (sym e)
    (subst (λ (xs : List Run). Shows (map shown_at []) t g ↔ (Shows (map shown_at xs) t g × (t < u))) (sym (drop_all from rs past))
    (λ none. absurd none, λ h. h.0))

-- the middle, made in three steps
pub middle_made : (part : Extent) (seen : ℕ → Group → Type 0) (rest front one two three : List Shown)
    → ((t : ℕ) (g : Group) → Shows one t g ↔ (Shows rest t g × (t < part.start)))
    → ((t : ℕ) (g : Group) → Shows two t g ↔ (Shows one t g ⊎ (Has part t × seen t g)))
    → ((t : ℕ) (g : Group) → Shows three t g ↔ (Shows two t g ⊎ (Shows front t g × (part.end ≤ t))))
    → MiddleShows part seen rest front three
middle_made part seen rest front one two three first second third t g = (λ s. forth ((third t g).0 s), back) where
  forth_two : Shows one t g ⊎ (Has part t × seen t g) → (Shows rest t g × (t < part.start)) ⊎ (Has part t × seen t g)
  forth_two (inl s) = inl ((first t g).0 s)
  forth_two (inr h) = inr h

  forth : Shows two t g ⊎ (Shows front t g × (part.end ≤ t)) → InMiddle part seen rest front t g
  forth (inl s) = inl (forth_two ((second t g).0 s))
  forth (inr h) = inr h

  back : InMiddle part seen rest front t g → Shows three t g
  back (inl (inl h)) = (third t g).1 (inl ((second t g).1 (inl ((first t g).1 h))))
  back (inl (inr h)) = (third t g).1 (inl ((second t g).1 (inr h)))
  back (inr h) = (third t g).1 (inr h)
