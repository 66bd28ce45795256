-- What a mark stands for while the world grows, and what true replies make of what is known.
use Rattle.std.proofs.Common.{◌≡◌, ◌+◌, ◌-◌, ◌<◌, ◌≤◌, ℕ, Bool, true, false, cond, ◌&&◌, List, [], ◌∷◌, ◌++◌, length, take, drop, Option, Some, None, refl, sym, ap, ◌∙◌, subst, arith, length-append, nat_eq, nat_le, nat_lt, not, inl, inr}
use Rattle.std.specs.List.{AllByRecursion, slice_range}
use Rattle.std.specs.Bool.{⊤}
use Rattle.std.specs.Option.{option_and_then, option_map, unwrap_or}
use Rattle.std.proofs.lemmas.Bool.{false≢true, eq-eqb, eqb-true, ne_eqb, leb-true, leb-false, le-leb, ltb-true}
use Rattle.std.proofs.lemmas.List.{append-nil, drop-drop, drop-take, take-append-le, take-append-drop, take_all, take-take}
use Rattle.std.proofs.lemmas.Option.{same_Some, none-some}
use Rattle.druid_base.proofs.OptionLemmas.{chained}
use Rattle.druid_segment_descriptor.specs.Described.{Described}
use Rattle.druid_segment_descriptor.specs.Mark.{Point, never, same_mark}
use Rattle.druid_segment_descriptor.specs.Replay.{replay, replay_from}
use Rattle.druid_segment_descriptor.specs.declared.change.Ask.{Ask}
use Rattle.druid_segment_descriptor.specs.declared.change.Ask.TheVariants.{Whole, Since}
use Rattle.druid_segment_descriptor.specs.declared.change.Ask.TheVariants as asks
use Rattle.druid_segment_descriptor.specs.Reply.{max_page}
use Rattle.druid_segment_descriptor.specs.declared.change.Cause.{Cause}
use Rattle.druid_segment_descriptor.specs.declared.change.Cause.TheVariants.{OtherIncarnation, TooOld}
use Rattle.druid_segment_descriptor.specs.declared.change.Change.{Change}
use Rattle.druid_segment_descriptor.specs.declared.reply.Body.{Body}
use Rattle.druid_segment_descriptor.specs.declared.reply.Body.TheVariants.{Delta, Snapshot, Page, Reset}
use Rattle.druid_segment_descriptor.proofs.ReplayLemmas.{replay_from-append, replay_from-front}
use Rattle.druid_sync_history.specs.Answer.{answer, asked_page, cause_of, first_page, is_frozen, mark_after, page_answer, page_of, reset_or_delta, whole_answer}
use Rattle.druid_sync_pages.specs.Pages.{pages_in}
use Rattle.druid_sync_history.proofs.HistoryLemmas.{no_cause}
use Rattle.druid_inventory.specs.Entry.{Entry}
use Rattle.druid_inventory.specs.Step.{Steps}
use Rattle.druid_inventory.specs.declared.fault.Outcome.{Outcome}
use Rattle.druid_inventory.specs.declared.fault.Outcome.TheVariants.{Moved, AlreadyHave, AskWhole, AskPages}
use Rattle.druid_laws_world.specs.World.{Era, Life, IsEra, IsLife, AreRising, CameTo, IsTrueEntry, IsStretch, IsHonest, Grows, eras_of, changes_of, set_after, set_at, with_more}
use Rattle.druid_laws_world.proofs.ListLemmas.{each_last}

-- ---- the changes of an incarnation

-- incarnations count from 1
pub from_one : (eras : List Era) (i : ℕ) (cs : List Change) → AllByRecursion IsEra eras → changes_of eras i ≡ Some cs → 1 ≤ i
from_one [] i cs all e = absurd (none-some cs e)
from_one (era ∷ eras) i cs all e = by_test (from_one eras i cs all.1) (nat_eq era.incarnation i) refl e where
  by_test : (changes_of eras i ≡ Some cs → 1 ≤ i) → (b : Bool) → nat_eq era.incarnation i ≡ b → cond b (Some era.changes) (changes_of eras i) ≡ Some cs → 1 ≤ i
  by_test rest true is f = let same = eqb-true era.incarnation i is in let low = all.0.incarnation in omega arith
  by_test rest false is f = rest f

-- the first is below the last
first_below : (x : Era) (eras : List Era) (y : Era) → AreRising (x ∷ eras ++ y ∷ []) → x.incarnation < y.incarnation
first_below x [] y h = h.0
first_below x (z ∷ eras) y h = let l = h.0 in let m = first_below z eras y h.1 in omega arith

rest_rises : (x : Era) (eras : List Era) (y : Era) → AreRising (x ∷ eras ++ y ∷ []) → AreRising (eras ++ y ∷ [])
rest_rises x [] y h = tt
rest_rises x (z ∷ eras) y h = h.1

-- of the last incarnation it is the last changes
pub last_changes_of : (ended : List Era) (last : Era) → AreRising (ended ++ last ∷ []) → changes_of (ended ++ last ∷ []) last.incarnation ≡ Some last.changes
last_changes_of [] last h = rw (eq-eqb last.incarnation last.incarnation refl) refl
last_changes_of (era ∷ ended) last h =
    let l = first_below era ended last h in
    rw (ne_eqb era.incarnation last.incarnation (λ e. absurd (omega arith))) (last_changes_of ended last (rest_rises era ended last h))

-- ---- rising

pub rising_same : (ended : List Era) (last new : Era) → last.incarnation ≡ new.incarnation → AreRising (ended ++ last ∷ []) → AreRising (ended ++ new ∷ [])
rising_same [] last new e h = tt
rising_same (x ∷ []) last new e h = let l = h.0 in (omega arith, tt)
rising_same (x ∷ y ∷ ended) last new e h = (h.0, rising_same (y ∷ ended) last new e h.1)

pub rising_more : (ended : List Era) (last new : Era) → last.incarnation < new.incarnation → AreRising (ended ++ last ∷ []) → AreRising ((ended ++ last ∷ []) ++ new ∷ [])
rising_more [] last new l h = (l, tt)
rising_more (x ∷ []) last new l h = (h.0, (l, tt))
rising_more (x ∷ y ∷ ended) last new l h = (h.0, rising_more (y ∷ ended) last new l h.1)

-- ---- growth

pub grows_self : (life : Life) → Grows life life
grows_self life = ([], [], ap (λ cs. life.ended ++ record { incarnation = life.last.incarnation; changes = cs } ∷ []) (sym (append-nil life.last.changes)))

pub changes_grow : (ended : List Era) (last : Era) (more : List Change) (beyond : List Era) (i : ℕ) (cs : List Change) → changes_of (ended ++ last ∷ []) i ≡ Some cs
    → (rest : List Change) × (changes_of (ended ++ with_more last more ∷ beyond) i ≡ Some (cs ++ rest))
changes_grow [] last more beyond i cs e = by_test (nat_eq last.incarnation i) e where
  by_test : (b : Bool) → cond b (Some last.changes) None ≡ Some cs
      → (rest : List Change) × (cond b (Some (last.changes ++ more)) (changes_of beyond i) ≡ Some (cs ++ rest))
  by_test true f = (more, ap (λ xs. Some (xs ++ more)) (same_Some last.changes cs f))
  by_test false f = absurd (none-some cs f)
changes_grow (era ∷ ended) last more beyond i cs e = by_test (changes_grow ended last more beyond i cs) (nat_eq era.incarnation i) e where
  by_test : (changes_of (ended ++ last ∷ []) i ≡ Some cs
      → (rest : List Change) × (changes_of (ended ++ with_more last more ∷ beyond) i ≡ Some (cs ++ rest)))
      → (b : Bool) → cond b (Some era.changes) (changes_of (ended ++ last ∷ []) i) ≡ Some cs
      → (rest : List Change) × (cond b (Some era.changes) (changes_of (ended ++ with_more last more ∷ beyond) i) ≡ Some (cs ++ rest))
  by_test later true f = ([], f ∙ ap (λ xs. Some xs) (sym (append-nil cs)))
  by_test later false f = later f

-- an incarnation's changes stay, with more after them
pub grown : (old new : Life) (i : ℕ) (cs : List Change) → Grows old new → changes_of (eras_of old) i ≡ Some cs
    → (rest : List Change) × (changes_of (eras_of new) i ≡ Some (cs ++ rest))
grown old new i cs g e =
    let found = changes_grow old.ended old.last g.0 g.1 i cs e in
    (found.0, ap (λ eras. changes_of eras i) g.2 ∙ found.1)

-- ---- the set at a mark

pub set_after-is : (cs : List Change) (n : ℕ) (set : List Described) → set_after cs n ≡ Some set → (n ≤ length cs) × (replay (take n cs) ≡ Some set)
unfolding set_after
set_after-is cs n set e = by_test (nat_le n (length cs)) refl e where
  by_test : (b : Bool) → nat_le n (length cs) ≡ b → cond b (replay (take n cs)) None ≡ Some set → (n ≤ length cs) × (replay (take n cs) ≡ Some set)
  by_test true is f = (leb-true n (length cs) is, f)
  by_test false is f = absurd (none-some set f)

pub set_after-made : (cs : List Change) (n : ℕ) (set : List Described) → n ≤ length cs → replay (take n cs) ≡ Some set → set_after cs n ≡ Some set
unfolding set_after
set_after-made cs n set l e = rw (le-leb n (length cs) l) e

pub set_after-grows : (cs rest : List Change) (n : ℕ) (set : List Described) → set_after cs n ≡ Some set → set_after (cs ++ rest) n ≡ Some set
set_after-grows cs rest n set e =
    let is = set_after-is cs n set e in
    let total = length-append cs rest in
    let l = is.0 in
    set_after-made (cs ++ rest) n set (omega arith) (ap replay (take-append-le n cs rest is.0) ∙ is.1)

pub set_at-grows : (old new : Life) (mark : Point) (set : List Described) → Grows old new → set_at (eras_of old) mark ≡ Some set → set_at (eras_of new) mark ≡ Some set
unfolding set_at
set_at-grows old new mark set g e = by_test (same_mark mark never) e where
  by_test : (b : Bool) → cond b (Some []) (option_and_then (λ cs. set_after cs mark.count) (changes_of (eras_of old) mark.incarnation)) ≡ Some set
      → cond b (Some []) (option_and_then (λ cs. set_after cs mark.count) (changes_of (eras_of new) mark.incarnation)) ≡ Some set
  by_test true f = f
  by_test false f =
      let found = chained (λ cs. set_after cs mark.count) (changes_of (eras_of old) mark.incarnation) set f in
      let more = grown old new mark.incarnation found.0 g found.1 in
      rw more.1 (set_after-grows found.0 more.0 mark.count set found.2)

-- ---- changes between two counts

pub slice-is : (xs : List Change) (a b : ℕ) → a ≤ b → slice_range xs a b ≡ drop a (take b xs)
slice-is xs a b l =
    let place : a + (b - a) ≡ b = omega arith in
    sym (drop-take a (b - a) xs) ∙ ap (λ n. drop a (take n xs)) place

slice_front : (xs ys : List Change) (a b : ℕ) → a ≤ b → b ≤ length xs → slice_range xs a b ≡ slice_range (xs ++ ys) a b
slice_front xs ys a b l m =
    slice-is xs a b l ∙ ap (drop a) (sym (take-append-le b xs ys m)) ∙ sym (slice-is (xs ++ ys) a b l)

-- the changes that come after a count in between
slice_rest : (xs : List Change) (a c b : ℕ) → a ≤ c → c ≤ b → drop (c - a) (slice_range xs a b) ≡ drop c (take b xs)
slice_rest xs a c b l m =
    let place : a + (c - a) ≡ c = omega arith in
    ap (drop (c - a)) (slice-is xs a b (omega arith)) ∙ drop-drop (c - a) a (take b xs) ∙ ap (λ n. drop n (take b xs)) place

-- a front in two parts
front_parts : (xs : List Change) (c b : ℕ) → c ≤ b → take c xs ++ drop c (take b xs) ≡ take b xs
front_parts xs c b l = ap (λ ys. ys ++ drop c (take b xs)) (sym (take-take c b xs l)) ∙ take-append-drop c (take b xs)

pub honest-grows : (old new : Life) (reply : Body) → Grows old new → IsHonest (eras_of old) reply → IsHonest (eras_of new) reply
honest-grows old new (Delta from to changes) g h =
    let more = grown old new from.incarnation h.all g h.of_one in
    let total = length-append h.all more.0 in
    let onward = h.onward in
    let there = h.there in
    let kept : slice_range h.all from.count to.count ≡ slice_range (h.all ++ more.0) from.count to.count = slice_front h.all more.0 from.count to.count onward there in
    record {
      all = h.all ++ more.0;
      of_one = more.1;
      same = h.same;
      onward = h.onward;
      there = omega arith;
      are = h.are ∙ kept;
    }
honest-grows old new (Snapshot at set) g h = set_at-grows old new at set g h
honest-grows old new (Page at page of segments) g h = record {
  set = h.set;
  there = set_at-grows old new at h.set g h.there;
  several = h.several;
  count = h.count;
  within = h.within;
  segments_are = h.segments_are;
}
honest-grows old new (Reset cause at) g h = tt

-- what is known stays true
pub entry-grows : (old new : Life) (e : Entry) → Grows old new → IsTrueEntry old e → IsTrueEntry new e
entry-grows old new e g h = set_at-grows old new e.mark e.set g h

-- ---- what replies make of what is known

same_mark-never : (mark : Point) → 1 ≤ mark.incarnation → same_mark mark never ≡ false
same_mark-never mark low = rw (ne_eqb mark.incarnation 0 (λ e. absurd (omega arith))) refl

pub synced : (mark : Point) → (mark ≡ never → ⊥) → same_mark mark never ≡ false
synced mark other = by_test (nat_eq mark.incarnation 0) (nat_eq mark.count 0) refl refl where
  by_test : (a b : Bool) → nat_eq mark.incarnation 0 ≡ a → nat_eq mark.count 0 ≡ b → (a && b) ≡ false
  by_test true true e f =
      let incarnations = eqb-true mark.incarnation 0 e in
      let counts = eqb-true mark.count 0 f in
      absurd (other (λ i. record { incarnation = incarnations i; count = counts i }))
  by_test true false e f = refl
  by_test false b e f = refl

pub unsynced_not : (mark : Point) → same_mark mark never ≡ false → mark ≡ never → ⊥
unsynced_not mark test same = false≢true (sym test ∙ ap (λ (m : Point). same_mark m never) same)

-- at a mark of an incarnation it is the set after so many of its changes
pub set_at-is : (eras : List Era) (mark : Point) (cs : List Change) (set : List Described) → 1 ≤ mark.incarnation → changes_of eras mark.incarnation ≡ Some cs
    → set_at eras mark ≡ Some set → (mark.count ≤ length cs) × (replay (take mark.count cs) ≡ Some set)
unfolding set_at
set_at-is eras mark cs set low e h =
    let test = same_mark-never mark low in
    let f = rw test at h in
    let found = chained (λ xs. set_after xs mark.count) (changes_of eras mark.incarnation) set f in
    let same : found.0 ≡ cs = same_Some found.0 cs (sym found.1 ∙ e) in
    set_after-is cs mark.count set (ap (λ xs. set_after xs mark.count) (sym same) ∙ found.2)

pub set_at-made : (eras : List Era) (mark : Point) (cs : List Change) (set : List Described) → 1 ≤ mark.incarnation → changes_of eras mark.incarnation ≡ Some cs
    → mark.count ≤ length cs → replay (take mark.count cs) ≡ Some set → set_at eras mark ≡ Some set
unfolding set_at
set_at-made eras mark cs set low e l h =
    rw (same_mark-never mark low, e) (set_after-made cs mark.count set l h)

-- a true delta that goes on from what is known leads to what the node served at its end
delta_true : (life : Life) (e new : Entry) (from to : Point) (changes : List Change) → IsLife life → IsTrueEntry life e → IsStretch (eras_of life) from to changes
    → Steps e (Delta from to changes) Moved new → IsTrueEntry life new
delta_true life e new from to changes valid known h step =
    let eras = eras_of life in
    let ahead = step.0.ahead in
    let later = ahead.later in
    let no_gap = step.0.no_gap in
    let one : e.mark.incarnation ≡ from.incarnation = sym ahead.incarnation ∙ h.same in
    let of_mark : changes_of eras e.mark.incarnation ≡ Some h.all = ap (changes_of eras) one ∙ h.of_one in
    let of_to : changes_of eras to.incarnation ≡ Some h.all = ap (changes_of eras) h.same ∙ h.of_one in
    let low = from_one eras e.mark.incarnation h.all valid.eras of_mark in
    let at = set_at-is eras e.mark h.all e.set low of_mark known in
    let tail : drop (e.mark.count - from.count) changes ≡ drop e.mark.count (take to.count h.all) =
    ap (drop (e.mark.count - from.count)) h.are ∙ slice_rest h.all from.count e.mark.count to.count no_gap (omega arith) in
    let rest : replay_from e.set (drop e.mark.count (take to.count h.all)) ≡ Some step.1 = ap (replay_from e.set) (sym tail) ∙ step.2 in
    let whole : replay (take to.count h.all) ≡ Some step.1 =
    ap replay (sym (front_parts h.all e.mark.count to.count (omega arith)))
    ∙ replay_from-append [] (take e.mark.count h.all) (drop e.mark.count (take to.count h.all))
    ∙ ap (option_and_then (λ t. replay_from t (drop e.mark.count (take to.count h.all)))) at.1 ∙ rest in
    let low_to = from_one eras to.incarnation h.all valid.eras of_to in
    let made = set_at-made eras to h.all step.1 low_to of_to h.there whole in
    subst (IsTrueEntry life) (sym step.3) made

-- whatever a true reply makes of what is known, it stays true
pub step_true : (life : Life) (e new : Entry) (reply : Body) (outcome : Outcome) → IsLife life → IsTrueEntry life e → IsHonest (eras_of life) reply
    → Steps e reply outcome new → IsTrueEntry life new
step_true life e new (Delta from to changes) Moved valid known h step = delta_true life e new from to changes valid known h step
step_true life e new (Delta from to changes) AlreadyHave valid known h step = subst (IsTrueEntry life) (sym step.2) known
step_true life e new (Delta from to changes) AskWhole valid known h step = absurd step
step_true life e new (Delta from to changes) AskPages valid known h step = absurd step
step_true life e new (Snapshot at set) Moved valid known h step = subst (IsTrueEntry life) (sym step.1) h
step_true life e new (Snapshot at set) AlreadyHave valid known h step = subst (IsTrueEntry life) (sym step.1) known
step_true life e new (Snapshot at set) AskWhole valid known h step = absurd step
step_true life e new (Snapshot at set) AskPages valid known h step = absurd step
step_true life e new (Page at page of segments) Moved valid known h step = absurd step
step_true life e new (Page at page of segments) AlreadyHave valid known h step = absurd step
step_true life e new (Page at page of segments) AskWhole valid known h step = absurd step
step_true life e new (Page at page of segments) AskPages valid known h step = subst (IsTrueEntry life) (sym step) known
step_true life e new (Reset cause at) Moved valid known h step = absurd step
step_true life e new (Reset cause at) AlreadyHave valid known h step = absurd step
step_true life e new (Reset cause at) AskWhole valid known h step = subst (IsTrueEntry life) (sym step) known
step_true life e new (Reset cause at) AskPages valid known h step = absurd step

-- ---- what a node answers

answer_since : (life : Life) (mark : Point) (o : Option Cause) (reply : Body) → IsLife life
    → o ≡ cause_of life.last.incarnation (length life.last.changes) life.kept mark
    → reset_or_delta life.last.incarnation life.last.changes mark o ≡ reply → IsHonest (eras_of life) reply
answer_since life mark (Some cause) reply valid is e = subst (IsHonest (eras_of life)) e tt
answer_since life mark None reply valid is e =
    let within = no_cause life.last.incarnation (length life.last.changes) life.kept mark (sym is) in
    let last = last_changes_of life.ended life.last valid.rising in
    let before = within.before in
    let all : take (length life.last.changes) life.last.changes ≡ life.last.changes = take_all (length life.last.changes) life.last.changes (omega arith) in
    let stretch : IsStretch (eras_of life) mark (mark_after life.last.incarnation life.last.changes) (drop mark.count life.last.changes) = record {
      all = life.last.changes;
      of_one = ap (changes_of (eras_of life)) within.incarnation_is ∙ last;
      same = sym within.incarnation_is;
      onward = before;
      there = omega arith;
      are = sym (slice-is life.last.changes mark.count (length life.last.changes) before ∙ ap (drop mark.count) all);
    } in
    subst (IsHonest (eras_of life)) e stretch

-- what a node froze is the set after so many changes, and too large for one message
pub record IsFrozenAt (changes : List Change) (count : ℕ) : Type 0 where
  pub within : count ≤ length changes
  pub set : List Described
  pub there : replay (take count changes) ≡ Some set
  pub many : max_page < length set

abbrev pub HasFrozen : List Change → Option ℕ → Type 0
HasFrozen changes None = ⊤
HasFrozen changes (Some count) = IsFrozenAt changes count

-- the set after some changes of the last incarnation is what the node served at that mark
last_set : (life : Life) (count : ℕ) (set : List Described) → IsLife life → count ≤ length life.last.changes → replay (take count life.last.changes) ≡ Some set
    → set_at (eras_of life) (record { incarnation = life.last.incarnation; count = count }) ≡ Some set
last_set life count set valid l e =
    let last = last_changes_of life.ended life.last valid.rising in
    let low = from_one (eras_of life) life.last.incarnation life.last.changes valid.eras last in
    set_at-made (eras_of life) (record { incarnation = life.last.incarnation; count = count }) life.last.changes set low last l e

-- and its pages are true
page_true : (life : Life) (count page : ℕ) (set : List Described) → IsLife life → count ≤ length life.last.changes → replay (take count life.last.changes) ≡ Some set
    → max_page < length set → page < pages_in (length set) → IsHonest (eras_of life) (page_of life.last.incarnation count page set)
page_true life count page set valid l e many within = record {
  set = set;
  there = last_set life count set valid l e;
  several = many;
  count = refl;
  within = within;
  segments_are = refl;
}

-- of the whole history
all_of : (cs : List Change) → take (length cs) cs ≡ cs
all_of cs = take_all (length cs) cs (omega arith)

-- ---- an answer is there, is true, and what is frozen after it is so

-- an answer, and what is frozen then
pub record AnswersTruly (life : Life) (answered : Option (Body × Option ℕ)) : Type 0 where
  pub reply : Body
  pub frozen : Option ℕ
  pub is : answered ≡ Some (reply, frozen)
  pub honest : IsHonest (eras_of life) reply
  pub stands : HasFrozen life.last.changes frozen

first_true : (life : Life) (count : ℕ) → IsLife life → IsFrozenAt life.last.changes count → AnswersTruly life (first_page life.last.incarnation life.last.changes count)
first_true life count valid h =
    let many = h.many in
    record {
      reply = page_of life.last.incarnation count 0 h.set;
      frozen = Some count;
      is = ap (option_map (λ set. (page_of life.last.incarnation count 0 set, Some count))) h.there;
      honest = page_true life count 0 h.set valid h.within h.there many (omega arith);
      stands = h;
    }

whole_true : (life : Life) (set : List Described) → IsLife life → HasFrozen life.last.changes life.frozen → replay life.last.changes ≡ Some set
    → AnswersTruly life (whole_answer life.last.incarnation life.last.changes life.frozen set)
whole_true life set valid stands e = by (nat_le (length set) max_page) refl where
  all : replay (take (length life.last.changes) life.last.changes) ≡ Some set
  all = ap replay (all_of life.last.changes) ∙ e

  now : max_page < length set → IsFrozenAt life.last.changes (length life.last.changes)
  now many = record { within = omega arith; set = set; there = all; many = many }

  frozen_or_now : (frozen : Option ℕ) → HasFrozen life.last.changes frozen → max_page < length set → IsFrozenAt life.last.changes (unwrap_or frozen (length life.last.changes))
  frozen_or_now None h many = now many
  frozen_or_now (Some count) h many = h

  by : (b : Bool) → nat_le (length set) max_page ≡ b
      → AnswersTruly life (cond b (Some (Snapshot (mark_after life.last.incarnation life.last.changes) set, life.frozen))
      (first_page life.last.incarnation life.last.changes (unwrap_or life.frozen (length life.last.changes))))
  by true few = record {
    reply = Snapshot (mark_after life.last.incarnation life.last.changes) set;
    frozen = life.frozen;
    is = refl;
    honest = last_set life (length life.last.changes) set valid (omega arith) all;
    stands = stands;
  }
  by false many = first_true life (unwrap_or life.frozen (length life.last.changes)) valid (frozen_or_now life.frozen stands (leb-false (length set) max_page many))

-- a reply that leaves what is frozen
stays : (life : Life) (o : Option Body) (reply : Body) → o ≡ Some reply → HasFrozen life.last.changes life.frozen → IsHonest (eras_of life) reply
    → AnswersTruly life (option_map (λ body. (body, life.frozen)) o)
stays life o reply e stands honest = record {
  reply = reply;
  frozen = life.frozen;
  is = ap (option_map (λ body. (body, life.frozen))) e;
  honest = honest;
  stands = stands;
}

asked_true : (life : Life) (mark : Point) (page : ℕ) → IsLife life → HasFrozen life.last.changes life.frozen
    → (reply : Body) × (asked_page life.last.incarnation life.last.changes life.frozen mark page ≡ Some reply) × IsHonest (eras_of life) reply
asked_true life mark page valid stands = by (nat_eq mark.incarnation life.last.incarnation) where
  reset : (cause : Cause) → Body
  reset cause = Reset cause (mark_after life.last.incarnation life.last.changes)

  of_set : (set : List Described) → max_page < length set → replay (take mark.count life.last.changes) ≡ Some set → mark.count ≤ length life.last.changes
      → (b : Bool) → nat_lt page (pages_in (length set)) ≡ b
      → IsHonest (eras_of life) (cond b (page_of life.last.incarnation mark.count page set) (reset TooOld))
  of_set set many e l true within = page_true life mark.count page set valid l e many (ltb-true page (pages_in (length set)) within)
  of_set set many e l false within = tt

  at_frozen : (count : ℕ) → IsFrozenAt life.last.changes count → (b : Bool) → nat_eq count mark.count ≡ b
      → (reply : Body) × (cond b (option_map (page_answer life.last.incarnation life.last.changes mark.count page) (replay (take mark.count life.last.changes)))
      (Some (reset TooOld)) ≡ Some reply) × IsHonest (eras_of life) reply
  at_frozen count h false e = (reset TooOld, refl, tt)
  at_frozen count h true e =
      let same = eqb-true count mark.count e in
      let there : replay (take mark.count life.last.changes) ≡ Some h.set = ap (λ n. replay (take n life.last.changes)) (sym same) ∙ h.there in
      let l = h.within in (
        page_answer life.last.incarnation life.last.changes mark.count page h.set,
        ap (option_map (page_answer life.last.incarnation life.last.changes mark.count page)) there,
        of_set h.set h.many there (omega (arith, same, l)) (nat_lt page (pages_in (length h.set))) refl,
      )

  by_frozen : (frozen : Option ℕ) → HasFrozen life.last.changes frozen
      → (reply : Body) × (cond (is_frozen frozen mark.count) (option_map (page_answer life.last.incarnation life.last.changes mark.count page) (replay (take mark.count life.last.changes)))
      (Some (reset TooOld)) ≡ Some reply) × IsHonest (eras_of life) reply
  by_frozen None h = (reset TooOld, refl, tt)
  by_frozen (Some count) h = at_frozen count h (nat_eq count mark.count) refl

  by : (b : Bool) → (reply : Body) × (cond (not b) (Some (reset OtherIncarnation))
      (cond (is_frozen life.frozen mark.count) (option_map (page_answer life.last.incarnation life.last.changes mark.count page) (replay (take mark.count life.last.changes)))
      (Some (reset TooOld))) ≡ Some reply) × IsHonest (eras_of life) reply
  by false = (reset OtherIncarnation, refl, tt)
  by true = by_frozen life.frozen stands

-- what a node answers
pub answers_truly : (life : Life) (ask : Ask) → IsLife life → HasFrozen life.last.changes life.frozen
    → AnswersTruly life (answer life.last.incarnation life.last.changes life.kept life.frozen ask)
answers_truly life Whole valid stands =
    let last = each_last IsEra life.ended life.last valid.eras in
    let made = whole_true life last.set valid stands last.replayed in
    record {
      reply = made.reply;
      frozen = made.frozen;
      is = ap (option_and_then (whole_answer life.last.incarnation life.last.changes life.frozen)) last.replayed ∙ made.is;
      honest = made.honest;
      stands = made.stands;
    }
answers_truly life (Since mark) valid stands =
    let cause = cause_of life.last.incarnation (length life.last.changes) life.kept mark in
    let reply = reset_or_delta life.last.incarnation life.last.changes mark cause in
    record { reply = reply; frozen = life.frozen; is = refl; honest = answer_since life mark cause reply valid refl refl; stands = stands }
answers_truly life (asks.Page mark page) valid stands =
    let made = asked_true life mark page valid stands in
    stays life (asked_page life.last.incarnation life.last.changes life.frozen mark page) made.0 made.1 stands made.2

-- so is each answer, since there is one
pub answer_true : (life : Life) (ask : Ask) (reply : Body) (frozen : Option ℕ) → IsLife life → HasFrozen life.last.changes life.frozen
    → answer life.last.incarnation life.last.changes life.kept life.frozen ask ≡ Some (reply, frozen) → IsHonest (eras_of life) reply × HasFrozen life.last.changes frozen
answer_true life ask reply frozen valid stands e =
    let made = answers_truly life ask valid stands in
    let same = same_Some (made.reply, made.frozen) (reply, frozen) (sym made.is ∙ e) in
    subst (λ (p : Body × Option ℕ). IsHonest (eras_of life) p.0 × HasFrozen life.last.changes p.1) same (made.honest, made.stands)

-- ---- the marks of a node

replayed_of : (eras : List Era) (i : ℕ) (cs : List Change) → AllByRecursion IsEra eras → changes_of eras i ≡ Some cs → (set : List Described) × (replay cs ≡ Some set)
replayed_of [] i cs all e = absurd (none-some cs e)
replayed_of (era ∷ eras) i cs all e = by_test (replayed_of eras i cs all.1) (nat_eq era.incarnation i) e where
  by_test : (changes_of eras i ≡ Some cs → (set : List Described) × (replay cs ≡ Some set)) → (b : Bool)
      → cond b (Some era.changes) (changes_of eras i) ≡ Some cs → (set : List Described) × (replay cs ≡ Some set)
  by_test rest true f = (all.0.set, ap replay (sym (same_Some era.changes cs f)) ∙ all.0.replayed)
  by_test rest false f = rest f

-- what a node came to has a set
pub set_there : (life : Life) (mark : Point) → IsLife life → CameTo life mark → (set : List Described) × (set_at (eras_of life) mark ≡ Some set)
unfolding set_at
set_there life mark valid (inl is) = ([], ap (λ (m : Point). set_at (eras_of life) m) is)
set_there life mark valid (inr (cs, of_one, l)) =
    let whole = replayed_of (eras_of life) mark.incarnation cs valid.eras of_one in
    let parts : replay (take mark.count cs ++ drop mark.count cs) ≡ Some whole.0 = ap replay (take-append-drop mark.count cs) ∙ whole.1 in
    let front = replay_from-front [] whole.0 (take mark.count cs) (drop mark.count cs) parts in
    let low = from_one (eras_of life) mark.incarnation cs valid.eras of_one in
    (front.0, set_at-made (eras_of life) mark cs front.0 low of_one l front.1)

-- and it has none elsewhere
pub came_to : (life : Life) (mark : Point) (set : List Described) → set_at (eras_of life) mark ≡ Some set → CameTo life mark
unfolding set_at
came_to life mark set e = by_test (nat_eq mark.incarnation 0) (nat_eq mark.count 0) refl refl e where
  later : option_and_then (λ cs. set_after cs mark.count) (changes_of (eras_of life) mark.incarnation) ≡ Some set → CameTo life mark
  later f =
      let found = chained (λ cs. set_after cs mark.count) (changes_of (eras_of life) mark.incarnation) set f in
      inr (found.0, found.1, (set_after-is found.0 mark.count set found.2).0)

  by_test : (a b : Bool) → nat_eq mark.incarnation 0 ≡ a → nat_eq mark.count 0 ≡ b
      → cond (a && b) (Some []) (option_and_then (λ cs. set_after cs mark.count) (changes_of (eras_of life) mark.incarnation)) ≡ Some set → CameTo life mark
  by_test true true i c f =
      let incarnations = eqb-true mark.incarnation 0 i in
      let counts = eqb-true mark.count 0 c in
      inl (λ k. record { incarnation = incarnations k; count = counts k })
  by_test true false i c f = later f
  by_test false b i c f = later f
