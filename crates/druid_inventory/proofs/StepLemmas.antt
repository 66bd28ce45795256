-- Steps of an entry.
use Rattle.std.proofs.Common.{◌≡◌, ◌≢◌, ◌+◌, ◌-◌, ◌<◌, ◌≤◌, ◌⊎◌, ◌↔◌, ◌++◌, ℕ, zero, suc, Bool, true, false, List, [], ◌∷◌, length, take, drop, Some, None, Result, Ok, Err, refl, sym, ap, ◌∙◌, subst, inl, inr, arith}
use Rattle.std.specs.List.{slice_get}
use Rattle.std.specs.Ordering.{nat_cmp, ordering_then}
use Rattle.std.specs.Option.{option_and_then}
use Rattle.std.specs.Result.{IfOk, IfErr}
use Rattle.std.specs.declared.cmp.Ordering.{Ordering}
use Rattle.std.specs.declared.cmp.Ordering.TheVariants.{Less, Equal, Greater}
use Rattle.std.proofs.lemmas.Bool.{false≢true, cases_eq, cases_order}
use Rattle.std.proofs.lemmas.List.{take_all, take_rest}
use Rattle.std.proofs.lemmas.Option.{same_Some, none-some}
use Rattle.druid_segment_descriptor.proofs.SortedLemmas.{mark_cmp-same}
use Rattle.druid_base.proofs.OrderLemmas.{nat_cmp-lt, nat_cmp-eq}
use Rattle.druid_base.proofs.OptionLemmas.{chained}
use Rattle.druid_segment_descriptor.specs.Described.{Described, same_described}
use Rattle.druid_segment_descriptor.specs.Mark.{Point, mark_cmp}
use Rattle.druid_segment_descriptor.specs.Replay.{is_strict, has_room, after, changed, replay_from}
use Rattle.druid_segment_descriptor.specs.declared.change.Change.{Change}
use Rattle.druid_segment_descriptor.specs.declared.reply.Body.{Body}
use Rattle.druid_segment_descriptor.specs.declared.reply.Body.TheVariants.{Delta, Snapshot, Page, Reset}
use Rattle.druid_segment_descriptor.proofs.DescribedLemmas.{same_described-decides}
use Rattle.druid_segment_descriptor.proofs.ReplayLemmas.{changed-made, changed-not_strict, changed-no_room, replay_from-front}
use Rattle.druid_inventory.specs.Entry.{Entry}
use Rattle.druid_inventory.specs.Step.{Steps, Refuses, GoesOn, IsAhead, DeltaMoves, DeltaRefused, DeltaIsKnown, SnapshotIsKnown, SnapshotConflicts, SnapshotRefused, NotStrictAt, NoRoomAt, known_of, tail_of, moved_to, StepsAt, RefusedAt, Reports}
use Rattle.druid_inventory.specs.declared.fault.Outcome.{Outcome}
use Rattle.druid_inventory.specs.declared.fault.Outcome.TheVariants.{Moved, AlreadyHave, AskWhole, AskPages}
use Rattle.druid_inventory.specs.declared.fault.ApplyFault.{ApplyFault}
use Rattle.druid_inventory.specs.declared.fault.ApplyFault.TheVariants as faults

-- ---- where a replay stops

-- after the first k changes, the next cannot be made
abbrev StopsAt : List Described → List Change → ℕ → List Described → Change → Type 0
StopsAt s cs k t c = (replay_from s (take k cs) ≡ Some t) × (slice_get cs k ≡ Some c) × (changed t c ≡ None)

loose_stops : (s : List Described) (cs : List Change) (k : ℕ) → (h : NotStrictAt s cs k) → StopsAt s cs k h.0 h.1
loose_stops s cs k h = (h.2, h.3, changed-not_strict h.0 h.1 h.4)

full_stops : (s : List Described) (cs : List Change) (k : ℕ) → (h : NoRoomAt s cs k) → StopsAt s cs k h.0 h.1
full_stops s cs k h = (h.2, h.3, changed-no_room h.0 h.1 h.5)

-- no list with more changes is replayed
stopped_more : (s : List Described) (cs more : List Change) (c : Change) (t u : List Described) → replay_from s cs ≡ Some t → changed t c ≡ None
    → replay_from s (cs ++ c ∷ more) ≡ Some u → ⊥
stopped_more s cs more c t u e none whole =
    let parts = replay_from-front s u cs (c ∷ more) whole in
    let same : parts.0 ≡ t = same_Some parts.0 t (sym parts.1 ∙ e) in
    let step = chained (λ v. replay_from v more) (changed parts.0 c) u parts.2 in
    none-some step.0 (sym none ∙ ap (λ (x : List Described). changed x c) (sym same) ∙ step.1)

-- a longer front begins with a shorter one and the change after it
longer : (cs : List Change) (k j : ℕ) (c : Change) → slice_get cs k ≡ Some c → k < j → (more : List Change) × (take j cs ≡ take k cs ++ c ∷ more)
longer [] k j c e l = absurd (none-some c e)
longer (x ∷ xs) k zero c e l = absurd (omega arith)
longer (x ∷ xs) zero (suc j) c e l = (take j xs, ap (λ (y : Change). y ∷ take j xs) (same_Some x c e))
longer (x ∷ xs) (suc k) (suc j) c e l =
    let rest = longer xs k j c e (omega arith) in
    (rest.0, ap (λ (ys : List Change). x ∷ ys) rest.1)

stops_before : (s : List Described) (cs : List Change) (k j : ℕ) (t u : List Described) (c : Change) → StopsAt s cs k t c → replay_from s (take j cs) ≡ Some u → k < j → ⊥
stops_before s cs k j t u c h e l =
    let parts = longer cs k j c h.1 l in
    stopped_more s (take k cs) parts.0 c t u h.0 h.2 (ap (replay_from s) (sym parts.1) ∙ e)

stops_once : (s : List Described) (cs : List Change) (k j : ℕ) (t u : List Described) (c d : Change) → StopsAt s cs k t c → StopsAt s cs j u d → k ≡ j
stops_once s cs k j t u c d a b = elim (cases_order k j) [
  | inl level ↦ level
  | inr (inl before) ↦ absurd (stops_before s cs k j t u c a b.0 before)
  | inr (inr beyond) ↦ absurd (stops_before s cs j k u t d b a.0 beyond)
]

within : (cs : List Change) (k : ℕ) (c : Change) → slice_get cs k ≡ Some c → k < length cs
within [] k c e = absurd (none-some c e)
within (x ∷ xs) zero c e = omega arith
within (x ∷ xs) (suc k) c e = let l = within xs k c e in omega arith

not_whole : (s : List Described) (cs : List Change) (k : ℕ) (t u : List Described) (c : Change) → StopsAt s cs k t c → replay_from s cs ≡ Some u → ⊥
not_whole s cs k t u c h e =
    let all : take (length cs) cs ≡ cs = take_all (length cs) cs (omega arith) in
    stops_before s cs k (length cs) t u c h (ap (replay_from s) all ∙ e) (within cs k c h.1)

loose_or_full : (s : List Described) (cs : List Change) (k j : ℕ) → NotStrictAt s cs k → NoRoomAt s cs j → ⊥
loose_or_full s cs k j a b =
    let level = stops_once s cs k j a.0 b.0 a.1 b.1 (loose_stops s cs k a) (full_stops s cs j b) in
    let sets : a.0 ≡ b.0 = same_Some a.0 b.0 (sym a.2 ∙ ap (λ (n : ℕ). replay_from s (take n cs)) level ∙ b.2) in
    let changes : a.1 ≡ b.1 = same_Some a.1 b.1 (sym a.3 ∙ ap (slice_get cs) level ∙ b.3) in
    false≢true (sym a.4 ∙ (λ i. is_strict (sets i) (changes i)) ∙ b.4)

-- ---- one outcome

apart_orders : (o : Ordering) → o ≡ Less → (o ≡ Greater) ⊎ (o ≡ Equal) → ⊥
apart_orders o less (inl greater) = absurd (cc)
apart_orders o less (inr equal) = absurd (cc)

is_one : (e : Entry) (at : Point) (set : List Described) (new : Entry) → SnapshotIsKnown e at set new → (mark_cmp e.mark at ≡ Greater) ⊎ (mark_cmp e.mark at ≡ Equal)
is_one e at set new h = elim h.0 [ inl above ↦ inl above | inr level ↦ inr level.0 ]

ahead_not_known : (e : Entry) (to : Point) (new : Entry) → IsAhead e to → DeltaIsKnown e to new → ⊥
ahead_not_known e to new h k = let later = h.later in let no = k.1 in absurd (omega arith)

pub Steps-one : (e : Entry) (b : Body) (o p : Outcome) (new other : Entry) → Steps e b o new → Steps e b p other → (o ≡ p) × (new ≡ other)
Steps-one e (Delta from to changes) Moved Moved new other h k =
    let same : h.1 ≡ k.1 = same_Some h.1 k.1 (sym h.2 ∙ k.2) in
    (refl, h.3 ∙ ap (moved_to e to) same ∙ sym k.3)
Steps-one e (Delta from to changes) Moved AlreadyHave new other h k = absurd (ahead_not_known e to other h.0.ahead k)
Steps-one e (Delta from to changes) Moved AskWhole new other h k = absurd k
Steps-one e (Delta from to changes) Moved AskPages new other h k = absurd k
Steps-one e (Delta from to changes) AlreadyHave Moved new other h k = absurd (ahead_not_known e to new k.0.ahead h)
Steps-one e (Delta from to changes) AlreadyHave AlreadyHave new other h k = (refl, h.2 ∙ sym k.2)
Steps-one e (Delta from to changes) AlreadyHave AskWhole new other h k = absurd k
Steps-one e (Delta from to changes) AlreadyHave AskPages new other h k = absurd k
Steps-one e (Delta from to changes) AskWhole p new other h k = absurd h
Steps-one e (Delta from to changes) AskPages p new other h k = absurd h
Steps-one e (Snapshot at set) Moved Moved new other h k = (refl, h.1 ∙ sym k.1)
Steps-one e (Snapshot at set) Moved AlreadyHave new other h k = absurd (apart_orders (mark_cmp e.mark at) h.0 (is_one e at set other k))
Steps-one e (Snapshot at set) Moved AskWhole new other h k = absurd k
Steps-one e (Snapshot at set) Moved AskPages new other h k = absurd k
Steps-one e (Snapshot at set) AlreadyHave Moved new other h k = absurd (apart_orders (mark_cmp e.mark at) k.0 (is_one e at set new h))
Steps-one e (Snapshot at set) AlreadyHave AlreadyHave new other h k = (refl, h.1 ∙ sym k.1)
Steps-one e (Snapshot at set) AlreadyHave AskWhole new other h k = absurd k
Steps-one e (Snapshot at set) AlreadyHave AskPages new other h k = absurd k
Steps-one e (Snapshot at set) AskWhole p new other h k = absurd h
Steps-one e (Snapshot at set) AskPages p new other h k = absurd h
Steps-one e (Page at page of segments) Moved p new other h k = absurd h
Steps-one e (Page at page of segments) AlreadyHave p new other h k = absurd h
Steps-one e (Page at page of segments) AskWhole p new other h k = absurd h
Steps-one e (Page at page of segments) AskPages Moved new other h k = absurd k
Steps-one e (Page at page of segments) AskPages AlreadyHave new other h k = absurd k
Steps-one e (Page at page of segments) AskPages AskWhole new other h k = absurd k
Steps-one e (Page at page of segments) AskPages AskPages new other h k = (refl, h ∙ sym k)
Steps-one e (Reset cause at) Moved p new other h k = absurd h
Steps-one e (Reset cause at) AlreadyHave p new other h k = absurd h
Steps-one e (Reset cause at) AskWhole Moved new other h k = absurd k
Steps-one e (Reset cause at) AskWhole AlreadyHave new other h k = absurd k
Steps-one e (Reset cause at) AskWhole AskWhole new other h k = (refl, h ∙ sym k)
Steps-one e (Reset cause at) AskWhole AskPages new other h k = absurd k
Steps-one e (Reset cause at) AskPages p new other h k = absurd h

-- ---- one refusal

pub record LooseIn (e : Entry) (from to : Point) (changes : List Change) (fault : ApplyFault) : Type 0 where
  pub goes_on : GoesOn e from to
  pub k : ℕ
  pub at : NotStrictAt e.set (tail_of e from changes) k
  pub is : fault ≡ faults.NotStrict (known_of e from + k)

pub record FullIn (e : Entry) (from to : Point) (changes : List Change) (fault : ApplyFault) : Type 0 where
  pub goes_on : GoesOn e from to
  pub k : ℕ
  pub at : NoRoomAt e.set (tail_of e from changes) k
  pub is : fault ≡ faults.TooMany

pub record ElsewhereIn (e : Entry) (to : Point) (fault : ApplyFault) : Type 0 where
  pub other : to.incarnation ≡ e.mark.incarnation → ⊥
  pub is : fault ≡ faults.OtherIncarnation

pub record GapIn (e : Entry) (from to : Point) (fault : ApplyFault) : Type 0 where
  pub ahead : IsAhead e to
  pub gap : e.mark.count < from.count
  pub is : fault ≡ faults.Gap

-- why a delta is refused
abbrev Reason : Entry → Point → Point → List Change → ApplyFault → Type 0
Reason e from to changes fault =
    ElsewhereIn e to fault ⊎ GapIn e from to fault ⊎ LooseIn e from to changes fault ⊎ FullIn e from to changes fault

reason : (e : Entry) (from to : Point) (changes : List Change) (fault : ApplyFault) → DeltaRefused e from to changes fault → Reason e from to changes fault
reason e from to changes faults.UnknownNode h = absurd h
reason e from to changes faults.OtherIncarnation h = inl (record { other = h; is = refl })
reason e from to changes faults.Gap h = inr (inl (record { ahead = h.0; gap = h.1; is = refl }))
reason e from to changes (faults.NotStrict index) h =
    inr (inr (inl (record { goes_on = h.0; k = h.1; at = h.2; is = ap (λ (n : ℕ). faults.NotStrict n) h.3 })))
reason e from to changes faults.TooMany h = inr (inr (inr (record { goes_on = h.0; k = h.1; at = h.2; is = refl })))
reason e from to changes faults.Conflict h = absurd h
reason e from to changes faults.PageConflict h = absurd h
reason e from to changes faults.Memory h = absurd h

one_reason : (e : Entry) (from to : Point) (changes : List Change) (f g : ApplyFault) → Reason e from to changes f → Reason e from to changes g → f ≡ g
one_reason e from to changes f g (inl a) (inl b) = a.is ∙ sym b.is
one_reason e from to changes f g (inl a) (inr (inl b)) = absurd (a.other b.ahead.incarnation)
one_reason e from to changes f g (inl a) (inr (inr (inl b))) = absurd (a.other b.goes_on.ahead.incarnation)
one_reason e from to changes f g (inl a) (inr (inr (inr b))) = absurd (a.other b.goes_on.ahead.incarnation)
one_reason e from to changes f g (inr (inl a)) (inl b) = absurd (b.other a.ahead.incarnation)
one_reason e from to changes f g (inr (inl a)) (inr (inl b)) = a.is ∙ sym b.is
one_reason e from to changes f g (inr (inl a)) (inr (inr (inl b))) = let l = a.gap in let m = b.goes_on.no_gap in absurd (omega arith)
one_reason e from to changes f g (inr (inl a)) (inr (inr (inr b))) = let l = a.gap in let m = b.goes_on.no_gap in absurd (omega arith)
one_reason e from to changes f g (inr (inr (inl a))) (inl b) = absurd (b.other a.goes_on.ahead.incarnation)
one_reason e from to changes f g (inr (inr (inl a))) (inr (inl b)) = let l = b.gap in let m = a.goes_on.no_gap in absurd (omega arith)
one_reason e from to changes f g (inr (inr (inl a))) (inr (inr (inl b))) =
    let level = stops_once e.set (tail_of e from changes) a.k b.k a.at.0 b.at.0 a.at.1 b.at.1
    (loose_stops e.set (tail_of e from changes) a.k a.at) (loose_stops e.set (tail_of e from changes) b.k b.at) in
    a.is ∙ ap (λ (n : ℕ). faults.NotStrict (known_of e from + n)) level ∙ sym b.is
one_reason e from to changes f g (inr (inr (inl a))) (inr (inr (inr b))) = absurd (loose_or_full e.set (tail_of e from changes) a.k b.k a.at b.at)
one_reason e from to changes f g (inr (inr (inr a))) (inl b) = absurd (b.other a.goes_on.ahead.incarnation)
one_reason e from to changes f g (inr (inr (inr a))) (inr (inl b)) = let l = b.gap in let m = a.goes_on.no_gap in absurd (omega arith)
one_reason e from to changes f g (inr (inr (inr a))) (inr (inr (inl b))) = absurd (loose_or_full e.set (tail_of e from changes) b.k a.k b.at a.at)
one_reason e from to changes f g (inr (inr (inr a))) (inr (inr (inr b))) = a.is ∙ sym b.is

only_conflict : (e : Entry) (at : Point) (set : List Described) (f : ApplyFault) → SnapshotRefused e at set f → SnapshotConflicts e at set × (f ≡ faults.Conflict)
only_conflict e at set faults.UnknownNode h = absurd h
only_conflict e at set faults.OtherIncarnation h = absurd h
only_conflict e at set faults.Gap h = absurd h
only_conflict e at set (faults.NotStrict index) h = absurd h
only_conflict e at set faults.TooMany h = absurd h
only_conflict e at set faults.Conflict h = (h, refl)
only_conflict e at set faults.PageConflict h = absurd h
only_conflict e at set faults.Memory h = absurd h

pub Refuses-one : (e : Entry) (b : Body) (f g : ApplyFault) → Refuses e b f → Refuses e b g → f ≡ g
Refuses-one e (Delta from to changes) f g h k = one_reason e from to changes f g (reason e from to changes f h) (reason e from to changes g k)
Refuses-one e (Snapshot at set) f g h k = (only_conflict e at set f h).1 ∙ sym (only_conflict e at set g k).1
Refuses-one e (Page at page of segments) f g h k = absurd h
Refuses-one e (Reset cause at) f g h k = absurd h

-- ---- an outcome or a refusal

moved_not_refused : (e : Entry) (from to : Point) (changes : List Change) (new : Entry) (f : ApplyFault) → DeltaMoves e from to changes new → Reason e from to changes f → ⊥
moved_not_refused e from to changes new f h (inl a) = a.other h.0.ahead.incarnation
moved_not_refused e from to changes new f h (inr (inl a)) = let l = a.gap in let m = h.0.no_gap in absurd (omega arith)
moved_not_refused e from to changes new f h (inr (inr (inl a))) =
    not_whole e.set (tail_of e from changes) a.k a.at.0 h.1 a.at.1 (loose_stops e.set (tail_of e from changes) a.k a.at) h.2
moved_not_refused e from to changes new f h (inr (inr (inr a))) =
    not_whole e.set (tail_of e from changes) a.k a.at.0 h.1 a.at.1 (full_stops e.set (tail_of e from changes) a.k a.at) h.2

known_not_refused : (e : Entry) (from to : Point) (changes : List Change) (new : Entry) (f : ApplyFault) → DeltaIsKnown e to new → Reason e from to changes f → ⊥
known_not_refused e from to changes new f h (inl a) = a.other h.0
known_not_refused e from to changes new f h (inr (inl a)) = ahead_not_known e to new a.ahead h
known_not_refused e from to changes new f h (inr (inr (inl a))) = ahead_not_known e to new a.goes_on.ahead h
known_not_refused e from to changes new f h (inr (inr (inr a))) = ahead_not_known e to new a.goes_on.ahead h

differs : (o : Ordering) → o ≡ Equal → o ≡ Greater → ⊥
differs o equal greater = absurd (cc)

no_conflict : (e : Entry) (at : Point) (set : List Described) → (mark_cmp e.mark at ≡ Greater) ⊎ ((mark_cmp e.mark at ≡ Equal) × (set ≡ e.set)) → SnapshotConflicts e at set → ⊥
no_conflict e at set (inl above) k = differs (mark_cmp e.mark at) k.0 above
no_conflict e at set (inr level) k = k.1 level.1

pub Steps-not_refused : (e : Entry) (b : Body) (o : Outcome) (new : Entry) (f : ApplyFault) → Steps e b o new → Refuses e b f → ⊥
Steps-not_refused e (Delta from to changes) Moved new f h k = moved_not_refused e from to changes new f h (reason e from to changes f k)
Steps-not_refused e (Delta from to changes) AlreadyHave new f h k = known_not_refused e from to changes new f h (reason e from to changes f k)
Steps-not_refused e (Delta from to changes) AskWhole new f h k = absurd h
Steps-not_refused e (Delta from to changes) AskPages new f h k = absurd h
Steps-not_refused e (Snapshot at set) Moved new f h k = apart_orders (mark_cmp e.mark at) h.0 (inr (only_conflict e at set f k).0.0)
Steps-not_refused e (Snapshot at set) AlreadyHave new f h k = no_conflict e at set h.0 (only_conflict e at set f k).0
Steps-not_refused e (Snapshot at set) AskWhole new f h k = absurd h
Steps-not_refused e (Snapshot at set) AskPages new f h k = absurd h
Steps-not_refused e (Page at page of segments) o new f h k = absurd k
Steps-not_refused e (Reset cause at) o new f h k = absurd k

-- ---- there is one or the other

-- the changes are replayed, or one of them stops the replay
abbrev Decision : List Described → List Change → Type 0
Decision s cs = ((t : List Described) × (replay_from s cs ≡ Some t)) ⊎ ((k : ℕ) × NotStrictAt s cs k) ⊎ ((k : ℕ) × NoRoomAt s cs k)

decide : (s : List Described) (cs : List Change) → Decision s cs
decide s [] = inl (s, refl)
decide s (c ∷ cs) = by (is_strict s c) (has_room s c) refl refl (decide (after s c) cs) where
  front : changed s c ≡ Some (after s c) → (ds : List Change) → replay_from s (c ∷ ds) ≡ replay_from (after s c) ds
  front e ds = ap (option_and_then (λ t. replay_from t ds)) e

  later : changed s c ≡ Some (after s c) → Decision (after s c) cs → Decision s (c ∷ cs)
  later e (inl (t, h)) = inl (t, front e cs ∙ h)
  later e (inr (inl (k, (t, d, h, at, loose)))) = inr (inl (suc k, (t, d, front e (take k cs) ∙ h, at, loose)))
  later e (inr (inr (k, (t, d, h, at, strict, full)))) = inr (inr (suc k, (t, d, front e (take k cs) ∙ h, at, strict, full)))

  by : (a b : Bool) → is_strict s c ≡ a → has_room s c ≡ b → Decision (after s c) cs → Decision s (c ∷ cs)
  by true true strict room rest = later (changed-made s c strict room) rest
  by true false strict full rest = inr (inr (0, (s, c, refl, refl, strict, full)))
  by false b loose room rest = inr (inl (0, (s, c, refl, refl, loose)))

-- an outcome, or a refusal
abbrev Ends : Entry → Body → Type 0
Ends e b = ((o : Outcome) × (new : Entry) × Steps e b o new) ⊎ ((f : ApplyFault) × Refuses e b f)

delta_ends : (e : Entry) (from to : Point) (changes : List Change) → GoesOn e from to → Decision e.set (tail_of e from changes) → Ends e (Delta from to changes)
delta_ends e from to changes on (inl (t, h)) = inl (Moved, moved_to e to t, (on, t, h, refl))
delta_ends e from to changes on (inr (inl (k, at))) = inr (faults.NotStrict (known_of e from + k), (on, k, at, refl))
delta_ends e from to changes on (inr (inr (k, at))) = inr (faults.TooMany, (on, k, at))

same_list : (a b : List Described) → (a ≡ b) ⊎ (a ≡ b → ⊥)
same_list [] [] = inl refl
same_list [] (y ∷ b) = inr (λ e. cc)
same_list (x ∷ a) [] = inr (λ e. cc)
same_list (x ∷ a) (y ∷ b) = by (same_described x y) refl (same_list a b) where
  by : (t : Bool) → same_described x y ≡ t → (a ≡ b) ⊎ (a ≡ b → ⊥) → (x ∷ a ≡ y ∷ b) ⊎ (x ∷ a ≡ y ∷ b → ⊥)
  by true e (inl rest) = let first = (same_described-decides x y).0 e in inl (λ i. first i ∷ rest i)
  by true e (inr other) = inr (λ h. other (cc))
  by false e rest = inr (λ h. let first : x ≡ y = cc in false≢true (sym e ∙ (same_described-decides x y).1 first))

pub Steps-some : (e : Entry) (b : Body) → Ends e b
Steps-some e (Delta from to changes) = by (cases_eq to.incarnation e.mark.incarnation) (later to.count e.mark.count) (later from.count e.mark.count) where
  later : (n m : ℕ) → (n ≤ m) ⊎ (m < n)
  later n m = elim (cases_order n m) [
    | inl level ↦ inl (omega arith)
    | inr (inl below) ↦ inl (omega arith)
    | inr (inr above) ↦ inr above
  ]

  by : (to.incarnation ≡ e.mark.incarnation) ⊎ (to.incarnation ≡ e.mark.incarnation → ⊥) → (to.count ≤ e.mark.count) ⊎ (e.mark.count < to.count)
      → (from.count ≤ e.mark.count) ⊎ (e.mark.count < from.count) → Ends e (Delta from to changes)
  by (inr other) b c = inr (faults.OtherIncarnation, other)
  by (inl same) (inl known) c = inl (AlreadyHave, e, (same, known, refl))
  by (inl same) (inr ahead) (inr gap) = inr (faults.Gap, (record { incarnation = same; later = ahead }, gap))
  by (inl same) (inr ahead) (inl near) =
      delta_ends e from to changes (record { ahead = record { incarnation = same; later = ahead }; no_gap = near }) (decide e.set (tail_of e from changes))
Steps-some e (Snapshot at set) = by (mark_cmp e.mark at) refl (same_list set e.set) where
  by : (o : Ordering) → mark_cmp e.mark at ≡ o → (set ≡ e.set) ⊎ (set ≡ e.set → ⊥) → Ends e (Snapshot at set)
  by Less is same = inl (Moved, moved_to e at set, (is, refl))
  by Greater is same = inl (AlreadyHave, e, (inl is, refl))
  by Equal is (inl same) = inl (AlreadyHave, e, (inr (is, same), refl))
  by Equal is (inr other) = inr (faults.Conflict, (is, other))
Steps-some e (Page at page of segments) = inl (AskPages, e, refl)
Steps-some e (Reset cause at) = inl (AskWhole, e, refl)

-- ---- marks

mark_later : (a b : Point) → b.incarnation ≡ a.incarnation → a.count < b.count → mark_cmp a b ≡ Less
mark_later a b same later =
    let first : nat_cmp a.incarnation b.incarnation ≡ Equal = ap (nat_cmp a.incarnation) same ∙ nat_cmp-eq a.incarnation in
    (λ i. ordering_then (first i) (nat_cmp a.count b.count)) ∙ nat_cmp-lt a.count b.count later

pub Steps-moved : (e : Entry) (b : Body) (new : Entry) → Steps e b Moved new → mark_cmp e.mark new.mark ≡ Less
Steps-moved e (Delta from to changes) new h =
    ap (λ (x : Entry). mark_cmp e.mark x.mark) h.3 ∙ mark_later e.mark to h.0.ahead.incarnation h.0.ahead.later
Steps-moved e (Snapshot at set) new h = ap (λ (x : Entry). mark_cmp e.mark x.mark) h.1 ∙ h.0
Steps-moved e (Page at page of segments) new h = absurd h
Steps-moved e (Reset cause at) new h = absurd h

left_so : (e new : Entry) → new ≡ e → mark_cmp e.mark new.mark ≢ Greater
left_so e new is above =
    differs (mark_cmp e.mark new.mark) (ap (λ (x : Entry). mark_cmp e.mark x.mark) is ∙ mark_cmp-same e.mark) above

pub Steps-left : (e : Entry) (b : Body) (o : Outcome) (new : Entry) → Steps e b o new → (o ≡ Moved) ⊎ (new ≡ e)
Steps-left e (Delta from to changes) Moved new h = inl refl
Steps-left e (Delta from to changes) AlreadyHave new h = inr h.2
Steps-left e (Delta from to changes) AskWhole new h = absurd h
Steps-left e (Delta from to changes) AskPages new h = absurd h
Steps-left e (Snapshot at set) Moved new h = inl refl
Steps-left e (Snapshot at set) AlreadyHave new h = inr h.1
Steps-left e (Snapshot at set) AskWhole new h = absurd h
Steps-left e (Snapshot at set) AskPages new h = absurd h
Steps-left e (Page at page of segments) Moved new h = absurd h
Steps-left e (Page at page of segments) AlreadyHave new h = absurd h
Steps-left e (Page at page of segments) AskWhole new h = absurd h
Steps-left e (Page at page of segments) AskPages new h = inr h
Steps-left e (Reset cause at) Moved new h = absurd h
Steps-left e (Reset cause at) AlreadyHave new h = absurd h
Steps-left e (Reset cause at) AskWhole new h = inr h
Steps-left e (Reset cause at) AskPages new h = absurd h

pub Steps-mark : (e : Entry) (b : Body) (o : Outcome) (new : Entry) → Steps e b o new → mark_cmp e.mark new.mark ≢ Greater
Steps-mark e b o new h above = elim (Steps-left e b o new h) [
  | inl moved ↦
      apart_orders (mark_cmp e.mark new.mark) (Steps-moved e b new (subst (λ (p : Outcome). Steps e b p new) moved h)) (inl above)
  | inr left ↦ left_so e new left above
]

-- by the numbers that were read
pub goes_on : (e : Entry) (from to held : Point) → held ≡ e.mark → to.incarnation ≡ held.incarnation → held.count < to.count → from.count ≤ held.count
    → GoesOn e from to
goes_on e from to held is same later near =
    subst (λ (p : Point). GoesOn (record { name = e.name; mark = p; set = e.set }) from to) is
    (record { ahead = record { incarnation = same; later = later }; no_gap = near })

-- the same changes, as a slice has them
pub tail_made : (e : Entry) (from : Point) (changes : List Change) (set : List Described) (t : List Described) (m n : ℕ) → m ≡ e.mark.count → n ≡ from.count
    → set ≡ e.set → replay_from set (take (length changes - (m - n)) (drop (m - n) changes)) ≡ Some t → replay_from e.set (tail_of e from changes) ≡ Some t
tail_made e from changes set t m n mark begin same made =
    let all : take (length changes - (m - n)) (drop (m - n) changes) ≡ drop (m - n) changes = take_rest changes (m - n) in
    let named : replay_from set (drop (m - n) changes) ≡ replay_from e.set (tail_of e from changes) =
    (λ i. replay_from (same i) (drop (mark i - begin i) changes)) in
    sym named ∙ ap (replay_from set) (sym all) ∙ made

-- ---- what an answer tells

abbrev pub SomeStep : List Entry → ℕ → Body → Type 0
SomeStep inventory node body = (o : Outcome) × (new : Entry) × StepsAt inventory node body o new

abbrev pub IsFound : List Entry → ℕ → Type 0
IsFound inventory node = (e : Entry) × (slice_get inventory node ≡ Some e)

found_unless : (inventory : List Entry) (node : ℕ) (body : Body) (f : ApplyFault) → (f ≡ faults.UnknownNode → ⊥) → Reports inventory node body f → IsFound inventory node
found_unless inventory node body faults.UnknownNode other h = absurd (other refl)
found_unless inventory node body faults.OtherIncarnation other h = (h.0, h.1)
found_unless inventory node body faults.Gap other h = (h.0, h.1)
found_unless inventory node body (faults.NotStrict index) other h = (h.0, h.1)
found_unless inventory node body faults.TooMany other h = (h.0, h.1)
found_unless inventory node body faults.Conflict other h = (h.0, h.1)
found_unless inventory node body faults.PageConflict other h = (h.0, h.1)
found_unless inventory node body faults.Memory other h = (h.2.0, h.2.1)

-- a refusal, or an outcome, or no such node
what_reports : (inventory : List Entry) (node : ℕ) (body : Body) (f : ApplyFault) → Reports inventory node body f
    → RefusedAt inventory node body f ⊎ SomeStep inventory node body ⊎ (slice_get inventory node ≡ None)
what_reports inventory node body faults.UnknownNode h = inr (inr h)
what_reports inventory node body faults.OtherIncarnation h = inl h
what_reports inventory node body faults.Gap h = inl h
what_reports inventory node body (faults.NotStrict index) h = inl h
what_reports inventory node body faults.TooMany h = inl h
what_reports inventory node body faults.Conflict h = inl h
what_reports inventory node body faults.PageConflict h = inl h
what_reports inventory node body faults.Memory h = inr (inl h)

refusal_reported : (inventory : List Entry) (node : ℕ) (body : Body) (f : ApplyFault) → f ≢ faults.UnknownNode → f ≢ faults.Memory → Reports inventory node body f
    → RefusedAt inventory node body f
refusal_reported inventory node body faults.UnknownNode a b h = absurd (a refl)
refusal_reported inventory node body faults.OtherIncarnation a b h = h
refusal_reported inventory node body faults.Gap a b h = h
refusal_reported inventory node body (faults.NotStrict index) a b h = h
refusal_reported inventory node body faults.TooMany a b h = h
refusal_reported inventory node body faults.Conflict a b h = h
refusal_reported inventory node body faults.PageConflict a b h = h
refusal_reported inventory node body faults.Memory a b h = absurd (b refl)

is_unknown : (f : ApplyFault) → (f ≡ faults.UnknownNode) ⊎ (f ≡ faults.UnknownNode → ⊥)
is_unknown faults.UnknownNode = inl refl
is_unknown faults.OtherIncarnation = inr (λ e. cc)
is_unknown faults.Gap = inr (λ e. cc)
is_unknown (faults.NotStrict index) = inr (λ e. cc)
is_unknown faults.TooMany = inr (λ e. cc)
is_unknown faults.Conflict = inr (λ e. cc)
is_unknown faults.PageConflict = inr (λ e. cc)
is_unknown faults.Memory = inr (λ e. cc)

-- the node is unknown exactly where the answer says so
pub unknown_exact : {X : Type 0} (r : Result X ApplyFault) (inventory : List Entry) (node : ℕ) (body : Body)
    → IfOk r (λ _. SomeStep inventory node body) → IfErr r (Reports inventory node body)
    → (r ≡ Err faults.UnknownNode) ↔ (slice_get inventory node ≡ None)
unknown_exact (Ok x) inventory node body ok reported = (λ e. absurd (cc), λ none. absurd (none-some ok.2.0 (sym none ∙ ok.2.1)))
unknown_exact {X} (Err f) inventory node body ok reported = elim (is_unknown f) [
  | inl is ↦ (λ _. subst (Reports inventory node body) is reported, λ _ i. Err (is i))
  | inr other ↦
      let found = found_unless inventory node body f other reported in
      (λ e. absurd (other (cc)), λ none. absurd (none-some found.0 (sym none ∙ found.1)))
]

refused_or_stepped : (inventory : List Entry) (node : ℕ) (body : Body) (f : ApplyFault) → RefusedAt inventory node body f → SomeStep inventory node body → ⊥
refused_or_stepped inventory node body f a b =
    let same : b.2.0 ≡ a.0 = same_Some b.2.0 a.0 (sym b.2.1 ∙ a.1) in
    Steps-not_refused a.0 body b.0 b.1 f (subst (λ (e : Entry). Steps e body b.0 b.1) same b.2.2) a.2

one_fault : (inventory : List Entry) (node : ℕ) (body : Body) (f g : ApplyFault) → RefusedAt inventory node body f → RefusedAt inventory node body g → f ≡ g
one_fault inventory node body f g a b =
    let same : b.0 ≡ a.0 = same_Some b.0 a.0 (sym b.1 ∙ a.1) in
    Refuses-one a.0 body f g a.2 (subst (λ (e : Entry). Refuses e body g) same b.2)

-- and a reply is refused exactly where it does
pub refused_exact : {X : Type 0} (r : Result X ApplyFault) (inventory : List Entry) (node : ℕ) (body : Body)
    → IfOk r (λ _. SomeStep inventory node body) → IfErr r (Reports inventory node body)
    → (fault : ApplyFault) → fault ≢ faults.UnknownNode → fault ≢ faults.Memory → (r ≡ Err fault) ↔ RefusedAt inventory node body fault
refused_exact (Ok x) inventory node body ok reported fault a b =
    (λ e. absurd (cc), λ refused. absurd (refused_or_stepped inventory node body fault refused ok))
refused_exact {X} (Err f) inventory node body ok reported fault a b = (
  λ e. let same : f ≡ fault = cc in refusal_reported inventory node body fault a b (subst (Reports inventory node body) same reported),
  λ refused. elim (what_reports inventory node body f reported) [
    | inl other ↦ let same = one_fault inventory node body f fault other refused in (λ i. Err (same i))
    | inr (inl stepped) ↦ absurd (refused_or_stepped inventory node body fault refused stepped)
    | inr (inr none) ↦ absurd (none-some refused.0 (sym none ∙ refused.1))
  ],
)
