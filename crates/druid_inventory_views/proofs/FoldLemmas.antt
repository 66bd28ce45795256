-- What is made of an inventory, reply by reply.
use Rattle.std.proofs.Common.{◌≡◌, ◌⊎◌, ◌<◌, ◌≤◌, ℕ, Bool, true, false, List, [], ◌∷◌, ◌++◌, length, take, set, Option, Some, None, if◌then◌else◌, nat_le, nat_lt, ◌==◌, ◌&&◌, inl, inr, refl, sym, ap, ◌∙◌, arith}
use Rattle.std.proofs.lemmas.Bool.{cases_order}
use Rattle.std.proofs.lemmas.Bool.Decides.{nat_tests}
use Rattle.std.proofs.lemmas.List.{take_all, take_at, take-append-le, length_push}
use mathlib.Core.List.{IsPrefix}
use Rattle.std.specs.List.{slice_get}
use Rattle.std.specs.Ordering.{is_lt}
use Rattle.std.specs.declared.cmp.Ordering.{Ordering}
use Rattle.std.specs.declared.cmp.Ordering.TheVariants.{Less, Equal, Greater}
use Rattle.druid_inventory.proofs.JoinLemmas.{names-set}
use Rattle.druid_segment_descriptor.specs.Described.{Described}
use Rattle.druid_segment_descriptor.specs.Mark.{mark_cmp}
use Rattle.druid_segment_descriptor.specs.Replay.{replay_from}
use Rattle.druid_segment_descriptor.specs.declared.reply.Body.{Body}
use Rattle.druid_segment_descriptor.specs.declared.reply.Body.TheVariants.{Delta, Snapshot, Page, Reset}
use Rattle.druid_inventory.specs.Entry.{Entry}
use Rattle.druid_inventory.specs.Join.{names_of}
use Rattle.druid_inventory.specs.Step.{Steps, StepsAt, moved_to, tail_of}
use Rattle.druid_inventory.specs.declared.fault.Outcome.{Outcome}
use Rattle.druid_inventory.specs.declared.fault.Outcome.TheVariants.{Moved, AlreadyHave, AskWhole, AskPages}
use Rattle.druid_inventory_views.specs.Fold.{IsStill, Published, goes_on, moved_if, stepped, stepped_if, step_by, fold_of}
use Rattle.druid_inventory.proofs.StepLemmas.{Steps-left}
use Rattle.druid_base.proofs.ListLemmas.{set-found}

-- ---- one entry

going : (i j m n k : ℕ) → i ≡ j → m < n → k ≤ m → ((i == j) && nat_lt m n && nat_le k m) ≡ true
going i j m n k same later near = grind (arith, nat_tests, same, later, near)

not_later : (i j m n k : ℕ) → n ≤ m → ((i == j) && nat_lt m n && nat_le k m) ≡ false
not_later i j m n k early = grind (arith, nat_tests, early)

gone : (i j m n k : ℕ) → ((i == j) && nat_lt m n && nat_le k m) ≡ true → (i ≡ j) × (m < n) × (k ≤ m)
gone i j m n k e = (grind (arith, nat_tests, e), grind (arith, nat_tests, e), grind (arith, nat_tests, e))

-- what Step makes of an entry
pub steps_are_stepped : (e : Entry) (b : Body) (o : Outcome) (new : Entry) → Steps e b o new → new ≡ stepped e b
steps_are_stepped e (Delta from to changes) Moved new (goes, t, made, is) =
    is ∙ sym (ap (λ (b : Bool). if b then moved_if e to (replay_from e.set (tail_of e from changes)) else e)
    (going to.incarnation e.mark.incarnation e.mark.count to.count from.count goes.ahead.incarnation goes.ahead.later goes.no_gap)
    ∙ ap (moved_if e to) made)
steps_are_stepped e (Delta from to changes) AlreadyHave new (same, early, is) =
    is ∙ sym (ap (λ (b : Bool). if b then moved_if e to (replay_from e.set (tail_of e from changes)) else e)
    (not_later to.incarnation e.mark.incarnation e.mark.count to.count from.count early))
steps_are_stepped e (Delta from to changes) AskWhole new h = absurd h
steps_are_stepped e (Delta from to changes) AskPages new h = absurd h
steps_are_stepped e (Snapshot at held) Moved new (less, is) = is ∙ sym (ap (λ (o : Ordering). if is_lt o then moved_to e at held else e) less)
steps_are_stepped e (Snapshot at held) AlreadyHave new (inl greater, is) = is ∙ sym (ap (λ (o : Ordering). if is_lt o then moved_to e at held else e) greater)
steps_are_stepped e (Snapshot at held) AlreadyHave new (inr (equal, _), is) = is ∙ sym (ap (λ (o : Ordering). if is_lt o then moved_to e at held else e) equal)
steps_are_stepped e (Snapshot at held) AskWhole new h = absurd h
steps_are_stepped e (Snapshot at held) AskPages new h = absurd h
steps_are_stepped e (Page at page of segments) Moved new h = absurd h
steps_are_stepped e (Page at page of segments) AlreadyHave new h = absurd h
steps_are_stepped e (Page at page of segments) AskWhole new h = absurd h
steps_are_stepped e (Page at page of segments) AskPages new h = h
steps_are_stepped e (Reset cause at) Moved new h = absurd h
steps_are_stepped e (Reset cause at) AlreadyHave new h = absurd h
steps_are_stepped e (Reset cause at) AskWhole new h = h
steps_are_stepped e (Reset cause at) AskPages new h = absurd h

-- a reply moves an entry by Step, or leaves it
pub stepping : (e : Entry) (b : Body) → Steps e b Moved (stepped e b) ⊎ (stepped e b ≡ e)
stepping e (Delta from to changes) = by (goes_on e from to) refl (replay_from e.set (tail_of e from changes)) refl
  where
    by : (b : Bool) → goes_on e from to ≡ b → (o : Option (List Described)) → replay_from e.set (tail_of e from changes) ≡ o
        → Steps e (Delta from to changes) Moved (if b then moved_if e to o else e) ⊎ ((if b then moved_if e to o else e) ≡ e)
    by false stays o made = inr refl
    by true goes None made = inr refl
    by true goes (Some t) made =
        let g = gone to.incarnation e.mark.incarnation e.mark.count to.count from.count goes in
        inl (record { ahead = record { incarnation = g.0; later = g.1 }; no_gap = g.2 }, t, made, refl)
stepping e (Snapshot at held) = by (mark_cmp e.mark at) refl
  where
    by : (o : Ordering) → mark_cmp e.mark at ≡ o
        → Steps e (Snapshot at held) Moved (if is_lt o then moved_to e at held else e) ⊎ ((if is_lt o then moved_to e at held else e) ≡ e)
    by Less is = inl (is, refl)
    by Equal is = inr refl
    by Greater is = inr refl
stepping e (Page at page of segments) = inr refl
stepping e (Reset cause at) = inr refl

stepped_name : (e : Entry) (b : Body) → (stepped e b).name ≡ e.name
stepped_name e (Delta from to changes) = by (goes_on e from to) (replay_from e.set (tail_of e from changes))
  where
    by : (b : Bool) (o : Option (List Described)) → (if b then moved_if e to o else e).name ≡ e.name
    by false o = refl
    by true None = refl
    by true (Some t) = refl
stepped_name e (Snapshot at held) = by (is_lt (mark_cmp e.mark at))
  where
    by : (b : Bool) → (if b then moved_to e at held else e).name ≡ e.name
    by false = refl
    by true = refl
stepped_name e (Page at page of segments) = refl
stepped_name e (Reset cause at) = refl

-- ---- one reply

-- what Step makes of an inventory
pub steps_by : (inventory : List Entry) (node : ℕ) (b : Body) (o : Outcome) (new : Entry) → StepsAt inventory node b o new → set inventory node new ≡ step_by inventory (node, b)
steps_by inventory node b o new (e, there, steps) =
    ap (set inventory node) (steps_are_stepped e b o new steps) ∙ sym (ap (stepped_if inventory (node, b)) there)

-- what is made by Step
pub made_by : (inventory made : List Entry) (node : ℕ) (b : Body) (o : Outcome) (new : Entry) → StepsAt inventory node b o new → made ≡ set inventory node new → made ≡ step_by inventory (node, b)
made_by inventory made node b o new steps is = is ∙ steps_by inventory node b o new steps

step_names : (inventory : List Entry) (pair : ℕ × Body) → names_of (step_by inventory pair) ≡ names_of inventory
step_names inventory pair = by (slice_get inventory pair.0) refl
  where
    by : (o : Option Entry) → slice_get inventory pair.0 ≡ o → names_of (stepped_if inventory pair o) ≡ names_of inventory
    by None there = refl
    by (Some e) there = names-set inventory pair.0 e (stepped e pair.1) there (stepped_name e pair.1)

-- ---- one after the other

pub fold_names : (opening : List Entry) (published : Published) → names_of (fold_of opening published) ≡ names_of opening
fold_names opening [] = refl
fold_names opening (pair ∷ published) = fold_names (step_by opening pair) published ∙ step_names opening pair

-- more replies go on from there
pub fold_on : (opening : List Entry) (published more : Published) → fold_of opening (published ++ more) ≡ fold_of (fold_of opening published) more
fold_on opening [] more = refl
fold_on opening (pair ∷ published) more = fold_on (step_by opening pair) published more

pub fold_more : (opening : List Entry) (published : Published) (pair : ℕ × Body) (now new : List Entry) → now ≡ fold_of opening published → new ≡ step_by now pair
    → new ≡ fold_of opening (published ++ pair ∷ [])
fold_more opening published pair now new folds steps =
    steps ∙ ap (λ (xs : List Entry). step_by xs pair) folds ∙ sym (fold_on opening published (pair ∷ []))

pub fold_steps : (opening : List Entry) (published : Published) (node : ℕ) (b : Body) (o : Outcome) (new : Entry) → StepsAt (fold_of opening published) node b o new
    → fold_of opening (published ++ (node, b) ∷ []) ≡ set (fold_of opening published) node new
fold_steps opening published node b o new steps =
    fold_on opening published ((node, b) ∷ []) ∙ sym (steps_by (fold_of opening published) node b o new steps)

pub names_of_fold : (opening : List Entry) (published : Published) (inventory : List Entry) → inventory ≡ fold_of opening published → names_of inventory ≡ names_of opening
names_of_fold opening published inventory folds = ap (λ (xs : List Entry). names_of xs) folds ∙ fold_names opening published

-- ---- replies that change nothing

-- a reply that does not move its entry leaves the inventory
pub left_by : (inventory : List Entry) (node : ℕ) (b : Body) (o : Outcome) (new : Entry) → StepsAt inventory node b o new → (o ≡ Moved → ⊥) → step_by inventory (node, b) ≡ inventory
left_by inventory node b o new (e, there, steps) still = elim (Steps-left e b o new steps) [
  | inl moved ↦ absurd (still moved)
  | inr left ↦ sym (steps_by inventory node b o new (e, there, steps)) ∙ ap (set inventory node) left ∙ set-found inventory node e there
]

pub left_made : (inventory made : List Entry) (node : ℕ) (b : Body) (o : Outcome) (new : Entry) → StepsAt inventory node b o new → made ≡ set inventory node new → (o ≡ Moved → ⊥)
    → made ≡ inventory
left_made inventory made node b o new steps is still = made_by inventory made node b o new steps is ∙ left_by inventory node b o new steps still

-- nothing changed beyond the end
pub still_all : (opening : List Entry) (published : Published) (count : ℕ) → count ≡ length published → IsStill opening published count
still_all opening published count e = record { same = λ k l. ap (fold_of opening) (take_all k published (omega arith)) }

-- where nothing changed beyond a beginning, it has the same fold
pub fold_begun : (opening : List Entry) (published begun : Published) (count : ℕ) → IsStill opening published count → count ≤ length begun
    → IsPrefix begun published → fold_of opening begun ≡ fold_of opening published
fold_begun opening published begun count h le begins =
    sym (ap (fold_of opening) (
    ap (λ (xs : Published). take (length begun) xs) (sym begins.1) ∙ (take-append-le (length begun) begun begins.0 (omega arith) ∙ take_all (length begun) begun (omega arith))
    )) ∙ h.same (length begun) le

-- nor beyond what is later
pub still_later : (opening : List Entry) (published : Published) (count later : ℕ) → IsStill opening published count → count ≤ later → IsStill opening published later
still_later opening published count later still l = record { same = λ k more. still.same k (omega (arith, l, more)) }

-- one more that changes nothing
pub still_more : (opening : List Entry) (published : Published) (pair : ℕ × Body) (count : ℕ) → IsStill opening published count
    → step_by (fold_of opening published) pair ≡ fold_of opening published → IsStill opening (published ++ pair ∷ []) count
still_more opening published pair count h still = record {
  same = λ k l. elim (cases_order k (length published)) [
    | inl level ↦ ap (λ (xs : Published). fold_of opening xs) (take-append-le k published (pair ∷ []) (omega arith)) ∙ h.same k l ∙ sym whole
    | inr (inl before) ↦ ap (λ (xs : Published). fold_of opening xs) (take-append-le k published (pair ∷ []) (omega arith)) ∙ h.same k l ∙ sym whole
    | inr (inr beyond) ↦
        let long = length_push published pair in
        ap (λ (xs : Published). fold_of opening xs) (take_all k (published ++ pair ∷ []) (omega arith))
  ];
} where
  whole : fold_of opening (published ++ pair ∷ []) ≡ fold_of opening published
  whole = fold_on opening published (pair ∷ []) ∙ still

-- what is shown of a list is the fold of all of it, where nothing changed beyond
pub fold_still : (opening : List Entry) (inventory : List Entry) (found longer : Published) (count : ℕ) → inventory ≡ fold_of opening found → IsPrefix found longer
    → IsStill opening longer count → count ≤ length found → inventory ≡ fold_of opening longer
fold_still opening inventory found longer count folds pre still l =
    let front : take (length found) longer ≡ found = ap (take (length found)) (sym pre.1) ∙ take_at found pre.0 (length found) refl in
    folds ∙ sym (ap (fold_of opening) front) ∙ still.same (length found) l
