-- Timelines edited by changes of the set of one node.
use Rattle.std.proofs.Common.{◌≡◌, ◌⊎◌, ℕ, zero, suc, Bool, true, false, List, [], ◌∷◌, set, Bor, Option, Some, None, IsSome, refl, sym, ap, ◌∙◌, subst, inl, inr, arith, IsTrue, Result, Ok, Err}
use Rattle.std.specs.Prelude.{◌↔◌, Contains}
use Rattle.std.specs.List.{slice_get}
use Rattle.std.specs.BTreeMap.{BTreeMap, IsClone, UpdatesBy, is_at}
use Rattle.std.specs.Map.{lookup}
use Rattle.std.specs.Ordering.{nat_cmp}
use Rattle.std.specs.Cmp.Lexicographic.{slice_cmp}
use Rattle.std.specs.Result.{OnOk}
use Rattle.druid_segment_id.proofs.OrderLemmas.{slice_cmp-Equal}
use Rattle.std.proofs.lemmas.Bool.{cases_eq, false≢true}
use Rattle.std.proofs.lemmas.List.Elements.{same_from_all_zip}
use Rattle.std.proofs.lemmas.Option.{same_Some, none-some}
use Rattle.druid_segment_id.specs.Identifier.{identifier_text}
use Rattle.druid_segment_id.specs.Group.{group_of}
use Rattle.druid_segment_descriptor.specs.Described.{Described}
use Rattle.druid_segment_descriptor.specs.Replay.{IsSegmentSet, is_strict, after, with_segment, without_segment}
use Rattle.druid_segment_descriptor.specs.declared.change.Change.TheVariants.{Load, Drop}
use Rattle.druid_base.proofs.MemberLemmas.{Contains-nil}
use Rattle.druid_segment_descriptor.proofs.ReplayLemmas.{strict_load, strict_drop, Contains-with_segment, Contains-without_segment}
use Rattle.druid_timeline.specs.Holding.{Held, Serving, HoldsNothing, held_of, IsPlaceOf, IsServed, RemovesHeld}
use Rattle.druid_inventory.specs.Entry.{Entry}
use Rattle.druid_inventory.specs.Sources.{Serves}
use Rattle.druid_inventory.specs.Timelines.{kept, IsHeldOf, IsKept, AreTimelines, held_by, TakesChange, EditsOut, IsLeftOver, RemovesSegment, ServesWith}
use Rattle.druid_inventory.proofs.ReplayedLemmas.{one_holder}
use Rattle.druid_inventory.proofs.TimelineLemmas.{WithSegment, AreTimelines-alike, held_of_kept, identifier_same, not_tied, same_or_not}

-- ---- one segment less

-- what is served, but one segment
abbrev pub WithoutSegment : (ℕ → Described → Type 0) → ℕ → Described → ℕ → Described → Type 0
WithoutSegment served node d i x = served i x × ((i ≡ node) × (x ≡ d) → ⊥)

-- of what the node serves, only the segment has its identifier
abbrev pub IsAlone : (ℕ → Described → Type 0) → ℕ → Described → Type 0
IsAlone served node d = (y : Described) → served node y → y.id ≡ d.id → y ≡ d

its_place : (node : ℕ) (d : Described) (i : ℕ) (y : Described) → i ≡ node → y ≡ d → IsPlaceOf node d.id (held_of i y)
its_place node d i y at same =
    (ap (λ (z : Described). group_of z.id) same, ap (λ (z : Described). z.id.partition) same, at)

at_its_place : (served : ℕ → Described → Type 0) (node : ℕ) (d : Described) → IsAlone served node d → (i : ℕ) (y : Described) → served i y
    → y.id.source ≡ d.id.source → IsPlaceOf node d.id (held_of i y) → (i ≡ node) × (y ≡ d)
at_its_place served node d alone i y there source place =
    (place.2, alone y (subst (λ (n : ℕ). served n y) place.2 there) (identifier_same y.id d.id source place.0 place.1))

-- of the source of the segment, what is left
pub held_less : (served : ℕ → Described → Type 0) (old new : List Held) (node : ℕ) (d : Described)
    → IsHeldOf served d.id.source old → RemovesHeld old new node d.id → IsAlone served node d → IsHeldOf (WithoutSegment served node d) d.id.source new
held_less served old new node d h removes alone x = (
  λ c.
      let was = (removes x).0 c in
      let s = (h x).0 was.0 in
      (s.0, s.1, (s.2, λ it. was.1 (subst (IsPlaceOf node d.id) (sym s.4) (its_place node d s.0 s.1 it.0 it.1))), s.3, s.4),
  λ e. (removes x).1 (
    (h x).1 (e.0, e.1, e.2.0, e.3, e.4),
    λ place. e.2.1 (at_its_place served node d alone e.0 e.1 e.2.0 e.3 (subst (IsPlaceOf node d.id) e.4 place)),
  ),
)

-- of another source
pub held_less_there : (served : ℕ → Described → Type 0) (source : List ℕ) (held : List Held) (node : ℕ) (d : Described)
    → (source ≡ d.id.source → ⊥) → IsHeldOf served source held → IsHeldOf (WithoutSegment served node d) source held
held_less_there served source held node d apart h x = (
  λ c. let was = (h x).0 c in (was.0, was.1, (was.2, λ it. apart (sym was.3 ∙ ap (λ (z : Described). z.id.source) it.1)), was.3, was.4),
  λ e. (h x).1 (e.0, e.1, e.2.0, e.3, e.4),
)

one_of : (held : List Held) → (HoldsNothing held → ⊥) → (x : Held) × Contains held x
one_of [] some = absurd (some (λ x there. Contains-nil x there))
one_of (x ∷ xs) some = (x, (0, omega arith, refl))

-- what is left over is the timeline of what is held
pub left_kept : (served : ℕ → Described → Type 0) (source : List ℕ) (held : List Held) (o : Option Serving)
    → IsHeldOf served source held → IsLeftOver source held o → IsKept served source o
left_kept served source held None h nothing = λ i y there same. nothing (held_of i y) ((h (held_of i y)).1 (i, y, there, same, refl))
left_kept served source held (Some t) h left =
    let one = one_of held left.2 in
    let it = (h one.0).0 one.1 in
    record {
      of_source = left.0;
      some = (it.0, it.1, it.2, it.3);
      held = subst (IsHeldOf served source) (sym left.1) h;
    }

-- at the source of the segment
less_here : (served : ℕ → Described → Type 0) (o n : Option Serving) (held : List Held) (node : ℕ) (d : Described)
    → IsKept served d.id.source o → RemovesHeld (held_by o) held node d.id → IsAlone served node d → IsLeftOver d.id.source held n
    → IsKept (WithoutSegment served node d) d.id.source n
less_here served o n held node d old removes alone left =
    left_kept (WithoutSegment served node d) d.id.source held n
    (held_less served (held_by o) held node d (held_of_kept served d.id.source o old) removes alone) left

-- at another source
pub less_there : (served : ℕ → Described → Type 0) (source : List ℕ) (o : Option Serving) (node : ℕ) (d : Described)
    → (source ≡ d.id.source → ⊥) → IsKept served source o → IsKept (WithoutSegment served node d) source o
less_there served source None node d apart h = λ i y s e. h i y s.0 e
less_there served source (Some t) node d apart h = record {
  of_source = h.of_source;
  some = (h.some.0, h.some.1, (h.some.2, λ it. apart (sym h.some.3 ∙ ap (λ (z : Described). z.id.source) it.1)), h.some.3);
  held = held_less_there served source t.held node d apart h.held;
}

-- with the segment taken out, the timelines are those of all but the segment
pub AreTimelines-less : (served : ℕ → Described → Type 0) (m n : BTreeMap (List ℕ) Serving) (node : ℕ) (d : Described)
    → AreTimelines served m → RemovesSegment m n node d → IsAlone served node d → AreTimelines (WithoutSegment served node d) n
AreTimelines-less served m n node d old removes alone = record {
  each = λ source. elim (same_or_not source d.id.source) [
    | inl e ↦
        subst (λ (s : List ℕ). IsKept (WithoutSegment served node d) s (kept n s)) (sym e)
        (less_here served (kept m d.id.source) (kept n d.id.source) removes.here.0 node d (old.each d.id.source) removes.here.1 alone removes.here.2)
    | inr apart ↦ rw (removes.others source apart) (less_there served source (kept m source) node d apart (old.each source))
  ];
}

-- ---- the set of one node

-- with its own set, a node serves what it served
pub ServesWith-own : (entries : List Entry) (node : ℕ) (e : Entry) → slice_get entries node ≡ Some e
    → (i : ℕ) (y : Described) → Serves entries i y ↔ ServesWith entries node e.set i y
ServesWith-own entries node e found i y = (
  λ s. elim (cases_eq i node) [
    | inl at ↦
        let same : s.0 ≡ e = same_Some s.0 e (sym s.1 ∙ ap (slice_get entries) at ∙ found) in
        inl (at, subst (λ (x : Entry). Contains x.set y) same s.2)
    | inr apart ↦ inr (apart, s)
  ],
  λ h. elim h [
    | inl own ↦ (e, ap (slice_get entries) own.0 ∙ found, own.1)
    | inr other ↦ other.1
  ],
)

set_at : (entries : List Entry) (node : ℕ) (new e : Entry) → slice_get entries node ≡ Some e → slice_get (set entries node new) node ≡ Some new
set_at [] node new e found = absurd (none-some e found)
set_at (x ∷ xs) zero new e found = refl
set_at (x ∷ xs) (suc node) new e found = set_at xs node new e found

set_apart : (entries : List Entry) (node i : ℕ) (new : Entry) → (i ≡ node → ⊥) → slice_get (set entries node new) i ≡ slice_get entries i
set_apart [] node i new apart = refl
set_apart (x ∷ xs) zero zero new apart = absurd (apart refl)
set_apart (x ∷ xs) zero (suc i) new apart = refl
set_apart (x ∷ xs) (suc node) zero new apart = refl
set_apart (x ∷ xs) (suc node) (suc i) new apart = set_apart xs node i new (λ e. apart (ap (λ (n : ℕ). suc n) e))

-- with another entry, the node serves its set
pub ServesWith-set : (entries : List Entry) (node : ℕ) (new e : Entry) (s : List Described) → slice_get entries node ≡ Some e → new.set ≡ s
    → (i : ℕ) (y : Described) → ServesWith entries node s i y ↔ Serves (set entries node new) i y
ServesWith-set entries node new e s found is i y = (
  λ h. elim h [
    | inl own ↦
        (new, ap (slice_get (set entries node new)) own.0 ∙ set_at entries node new e found, subst (λ (x : List Described). Contains x y) (sym is) own.1)
    | inr other ↦ (other.1.0, set_apart entries node i new other.0 ∙ other.1.1, other.1.2)
  ],
  λ served. elim (cases_eq i node) [
    | inl at ↦
        let same : served.0 ≡ new = same_Some served.0 new (sym served.1 ∙ ap (slice_get (set entries node new)) at ∙ set_at entries node new e found) in
        inl (at, subst (λ (x : List Described). Contains x y) is (subst (λ (x : Entry). Contains x.set y) same served.2))
    | inr apart ↦ inr (apart, (served.0, sym (set_apart entries node i new apart) ∙ served.1, served.2))
  ],
)

-- a segment is loaded
pub ServesWith-loaded : (entries : List Entry) (node : ℕ) (s : List Described) (d : Described)
    → (i : ℕ) (y : Described) → WithSegment (ServesWith entries node s) node d i y ↔ ServesWith entries node (with_segment d s) i y
ServesWith-loaded entries node s d i y = (
  λ h. elim h [
    | inl (inl own) ↦ inl (own.0, (Contains-with_segment s d y).1 (inr own.1))
    | inl (inr other) ↦ inr other
    | inr new ↦ inl (new.0, (Contains-with_segment s d y).1 (inl new.1))
  ],
  λ h. elim h [
    | inl own ↦ elim ((Contains-with_segment s d y).0 own.1) [
      | inl new ↦ inr (own.0, new)
      | inr before ↦ inl (inl (own.0, before))
    ]
    | inr other ↦ inl (inr other)
  ],
)

-- a segment is dropped
pub ServesWith-dropped : (entries : List Entry) (node : ℕ) (s : List Described) (d : Described)
    → (i : ℕ) (y : Described) → WithoutSegment (ServesWith entries node s) node d i y ↔ ServesWith entries node (without_segment d s) i y
ServesWith-dropped entries node s d i y = (
  λ h. elim h.0 [
    | inl own ↦ inl (own.0, (Contains-without_segment s d y).1 (λ e. h.1 (own.0, e), own.1))
    | inr other ↦ inr other
  ],
  λ h. elim h [
    | inl own ↦ let left = (Contains-without_segment s d y).0 own.1 in (inl (own.0, left.1), λ it. left.0 it.1)
    | inr other ↦ (inr other, λ it. other.0 it.0)
  ],
)

-- the node serves no segment of the identifier of one that is loaded
pub loaded_fresh : (entries : List Entry) (node : ℕ) (s : List Described) (d : Described) → IsTrue (is_strict s (Load d))
    → (y : Described) → ServesWith entries node s node y → y.id ≡ d.id → ⊥
loaded_fresh entries node s d strict y there same = elim there [
  | inl own ↦ (strict_load s d).0 strict y own.1 (ap identifier_text same)
  | inr other ↦ other.0 refl
]

-- a segment that the node serves is held
pub is_served : (served : ℕ → Described → Type 0) (node : ℕ) (d : Described) (t : Serving) → t.source ≡ d.id.source → IsHeldOf served d.id.source t.held
    → served node d → IsServed t node d.id
is_served served node d t of_source h there =
    (sym of_source, (held_of node d, (h (held_of node d)).1 (node, d, there, refl, refl), refl, refl, refl))

-- a segment that is dropped is in the timeline of its source
pub dropped_in : (served : ℕ → Described → Type 0) (node : ℕ) (d : Described) (o : Option Serving) → IsKept served d.id.source o → served node d
    → (t : Serving) × (o ≡ Some t) × IsServed t node d.id
dropped_in served node d None h there = absurd (h node d there refl)
dropped_in served node d (Some t) h there = (t, refl, is_served served node d t h.of_source h.held there)

pub dropped_alone : (entries : List Entry) (node : ℕ) (s : List Described) (d : Described) → IsSegmentSet s → IsTrue (is_strict s (Drop d))
    → IsAlone (ServesWith entries node s) node d
dropped_alone entries node s d h strict y there same = elim there [
  | inl own ↦ one_holder s h.sorted y d own.1 ((strict_drop s d).0 strict) (ap identifier_text same)
  | inr other ↦ absurd (other.0 refl)
]

-- ---- copies

-- a copy of the timelines
pub AreTimelines-copied : (served : ℕ → Described → Type 0) (m n : BTreeMap (List ℕ) Serving) → n.entries ≡ m.entries → AreTimelines served m → AreTimelines served n
AreTimelines-copied served m n e h = record {
  each = λ source.
      let same : kept n source ≡ kept m source = ap (lookup (is_at (slice_cmp nat_cmp source))) e in
      subst (IsKept served source) (sym same) (h.each source);
}

pair_same : {A B : Type 0} (x y : A × B) → (y.0 ≡ x.0) × (y.1 ≡ x.1) → y ≡ x
pair_same x y e i = (e.0 i, e.1 i)

pub copied_entries : (m n : BTreeMap (List ℕ) Serving) → IsClone (λ k c. c ≡ k) (λ t c. c ≡ t) m n → n.entries ≡ m.entries
copied_entries m n h =
    same_from_all_zip (λ (p q : List ℕ × Serving). (q.0 ≡ p.0) × (q.1 ≡ p.1)) m.entries n.entries h (λ x y e. pair_same x y e)

-- ---- what edits of a map are

-- the timeline that was there is edited
pub EditsOut-edited : (m n : BTreeMap (List ℕ) Serving) (source : List ℕ) (before t : Serving) (node : ℕ) (d : Described) (b : Bool)
    → source ≡ d.id.source → Some before ≡ kept m source → TakesChange m node (Drop d)
    → UpdatesBy (slice_cmp nat_cmp) (slice_cmp nat_cmp source) m n (Some t)
    → RemovesHeld before.held t.held node d.id → t.source ≡ before.source → IsTrue b ↔ HoldsNothing t.held → EditsOut m n node d b
EditsOut-edited m n source before t node d b same found served writes removes stays empty =
    let e : kept m d.id.source ≡ Some before = subst (λ (s : List ℕ). kept m s ≡ Some before) same (sym found) in
    let it : served.0 ≡ before = same_Some served.0 before (sym served.1 ∙ e) in
    let of_source : t.source ≡ d.id.source = stays ∙ sym (ap (λ (s : Serving). s.source) it) ∙ sym served.2.0 in
    record {
      here = (
        t,
        subst (λ (s : List ℕ). kept n s ≡ Some t) same writes.1,
        of_source,
        subst (λ (o : Option Serving). RemovesHeld (held_by o) t.held node d.id) (sym e) removes,
        empty,
      );
      others = λ s apart. writes.2 s (not_tied (slice_cmp nat_cmp source s) (λ f. apart (sym (slice_cmp-Equal source s f) ∙ same)));
    }

-- something is left of it
pub RemovesSegment-some : (m n : BTreeMap (List ℕ) Serving) (node : ℕ) (d : Described) (b : Bool) → b ≡ false → EditsOut m n node d b → RemovesSegment m n node d
RemovesSegment-some m n node d b some h =
    let left : IsLeftOver d.id.source h.here.0.held (Some h.here.0) = (h.here.2, refl, λ nothing. false≢true (sym some ∙ h.here.4.1 nothing)) in
    record {
      here = (h.here.0.held, h.here.3, subst (IsLeftOver d.id.source h.here.0.held) (sym h.here.1) left);
      others = h.others;
    }

-- nothing is left, and it goes
pub RemovesSegment-none : (m n p : BTreeMap (List ℕ) Serving) (source : List ℕ) (node : ℕ) (d : Described) (b : Bool) → b ≡ true → EditsOut m n node d b
    → source ≡ d.id.source → UpdatesBy (slice_cmp nat_cmp) (slice_cmp nat_cmp source) n p None → RemovesSegment m p node d
RemovesSegment-none m n p source node d b none h same writes =
    let gone : kept p d.id.source ≡ None = subst (λ (s : List ℕ). kept p s ≡ None) same writes.1 in
    record {
      here = (h.here.0.held, h.here.3, subst (IsLeftOver d.id.source h.here.0.held) (sym gone) (h.here.4.0 none));
      others = λ s apart.
          writes.2 s (not_tied (slice_cmp nat_cmp source s) (λ f. apart (sym (slice_cmp-Equal source s f) ∙ same))) ∙ h.others s apart;
    }

pub both_ok : {T E : Type 0} (r : Result T E) (P Q : Type 0) → OnOk r P → OnOk r Q → OnOk r (P × Q)
both_ok (Ok x) P Q p q = (p, q)
both_ok (Err e) P Q p q = tt

pub borrowed_timeline : (borrowed inside now : Serving) → (borrowed ≡ inside) ⊎ (borrowed ≡ inside) → inside ≡ now → borrowed ≡ now
borrowed_timeline borrowed inside now (inl e) f = e ∙ f
borrowed_timeline borrowed inside now (inr e) f = e ∙ f

-- ---- a change

-- ---- before the first change, and after the last

pub replay_start : (entries : List Entry) (node : ℕ) (e : Entry) (s : List Described) (m n : BTreeMap (List ℕ) Serving)
    → slice_get entries node ≡ Some e → s ≡ e.set → n.entries ≡ m.entries → AreTimelines (Serves entries) m → AreTimelines (ServesWith entries node s) n
replay_start entries node e s m n found set copied over =
    subst (λ (x : List Described). AreTimelines (ServesWith entries node x) n) (sym set)
    (AreTimelines-alike (Serves entries) (ServesWith entries node e.set) n (ServesWith-own entries node e found)
    (AreTimelines-copied (Serves entries) m n copied over))

pub replay_end : (entries after : List Entry) (node : ℕ) (e new : Entry) (s : List Described) (n : BTreeMap (List ℕ) Serving)
    → slice_get entries node ≡ Some e → new.set ≡ s → after ≡ set entries node new → AreTimelines (ServesWith entries node s) n
    → AreTimelines (Serves after) n
replay_end entries after node e new s n found is made over =
    subst (λ (es : List Entry). AreTimelines (Serves es) n) (sym made)
    (AreTimelines-alike (ServesWith entries node s) (Serves (set entries node new)) n (ServesWith-set entries node new e s found is) over)

-- what a map answered, and what is answered of it
pub some_so : (r : Option (Bor Serving)) (x y : Bor Serving) (P : Type 0) → r ≡ Some x → IsSome r ↔ P → IsSome (Some y) ↔ P
some_so r x y P e h = (λ _. h.0 (subst IsSome (sym e) refl), λ _. refl)

pub none_so : (r : Option (Bor Serving)) (P : Type 0) → r ≡ None → IsSome r ↔ P → IsSome {T = Bor Serving} None ↔ P
none_so r P e h = (λ f. absurd (false≢true f), λ p. subst (λ (o : Option (Bor Serving)). IsSome o) e (h.1 p))
