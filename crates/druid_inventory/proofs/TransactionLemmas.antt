-- Timelines under edits that are committed or rolled back together.
use Rattle.std.proofs.Common.{◌≡◌, ◌<◌, ◌⊎◌, ℕ, List, [], ◌∷◌, length, Option, Some, None, IsSome, Result, Ok, Err, false, refl, sym, ap, ◌∙◌, subst, inl, inr, IsTrue, arith}
use Rattle.std.specs.Prelude.{◌↔◌, Contains}
use Rattle.std.specs.BTreeMap.{BTreeMap, UpdatesBy, get, is_at}
use Rattle.std.specs.Map.{lookup}
use Rattle.std.specs.Option.{is_some}
use Rattle.std.specs.Result.{OnOk, OnErr}
use Rattle.std.specs.Ordering.{nat_cmp}
use Rattle.std.specs.Cmp.Lexicographic.{slice_cmp}
use Rattle.std.proofs.lemmas.Bool.{false≢true}
use Rattle.druid_segment_id.specs.Group.{Group, same_group}
use Rattle.druid_segment_id.proofs.OrderLemmas.{slice_cmp-Equal}
use Rattle.druid_timeline_chunks.specs.Chunks.{members_at}
use Rattle.druid_timeline_chunks.proofs.ChunkLemmas.{same_group-exact, same_group-itself}
use Rattle.druid_timeline_members.specs.Members.{Member}
use Rattle.druid_segment_descriptor.specs.Described.{Described}
use Rattle.druid_segment_descriptor.specs.Replay.{IsSegmentSet, is_strict, after, with_segment, without_segment}
use Rattle.druid_segment_descriptor.specs.declared.change.Change.{Change}
use Rattle.druid_segment_descriptor.specs.declared.change.Change.TheVariants.{Load, Drop}
use Rattle.druid_base.proofs.MemberLemmas.{Contains-map, Contains-map_back}
use Rattle.druid_segment_descriptor.proofs.ReplayLemmas.{strict_drop}
use Rattle.druid_timeline.specs.Holding.{Held, Serving, HoldsNothing, members_of}
use Rattle.druid_timeline.specs.Transactions.{Edited}
use Rattle.druid_timeline.proofs.HoldingLemmas.{in_filter, from_filter}
use Rattle.druid_inventory.specs.Entry.{Entry}
use Rattle.druid_inventory.specs.Judged.{segment_of}
use Rattle.druid_inventory.specs.Timelines.{kept, IsHeldOf, IsKept, AreTimelines, IsLeftOver, ServesWith}
use Rattle.druid_inventory.specs.Transactions.{edited, IsAfter, IsBefore, IsEither, AreEither, AreAfter, Begins, HasPlace, TakesEdit, Goes, GoesOn, Makes, Settles}
use Rattle.druid_inventory.proofs.EditLemmas.{WithoutSegment, IsAlone, held_less, held_less_there, less_there, left_kept, loaded_fresh, is_served, dropped_alone, ServesWith-loaded, ServesWith-dropped}
use Rattle.druid_inventory.proofs.TimelineLemmas.{WithSegment, held_of_kept, held_more, held_more_there, kept_there, held_alike, kept_alike, same_or_not, not_held, not_tied}

-- ---- one way or the other

pub on_ok : {T E : Type 0} (r : Result T E) {P : Type 0} → P → OnOk r P
on_ok (Ok x) p = p
on_ok (Err e) p = tt

-- ---- writes to a map

-- other keys keep what they had
pub others_stay : {X : Type 0} (m n : BTreeMap (List ℕ) X) (source key : List ℕ) (w : Option X) → key ≡ source
    → UpdatesBy (slice_cmp nat_cmp) (slice_cmp nat_cmp key) m n w → (s : List ℕ) → (s ≡ source → ⊥)
    → get (slice_cmp nat_cmp) n s ≡ get (slice_cmp nat_cmp) m s
others_stay m n source key w same writes s apart =
    writes.2 s (not_tied (slice_cmp nat_cmp key s) (λ e. apart (sym (slice_cmp-Equal key s e) ∙ same)))

-- edits are written over those of the source
pub GoesOn-written : (m n : BTreeMap (List ℕ) Edited) (source key : List ℕ) (a b : Edited) (by : Edited → Edited → Type 0) → key ≡ source
    → Some a ≡ edited m key → UpdatesBy (slice_cmp nat_cmp) (slice_cmp nat_cmp key) m n (Some b) → by a b → GoesOn m n source by
GoesOn-written m n source key a b by same found writes goes = record {
  here = (a, b, subst (λ (s : List ℕ). edited m s ≡ Some a) same (sym found), subst (λ (s : List ℕ). edited n s ≡ Some b) same writes.1, goes);
  others = others_stay m n source key (Some b) same writes;
}

-- edits are inserted at the source
pub Begins-inserted : (old new : BTreeMap (List ℕ) Edited) (source key : List ℕ) (e : Edited) (begun t : Serving) → key ≡ source
    → UpdatesBy (slice_cmp nat_cmp) (slice_cmp nat_cmp key) old new (Some e) → e.now ≡ begun → ((g : Group) → members_at e.before g ≡ members_of begun.held g)
    → begun ≡ t → Begins old new source t
Begins-inserted old new source key e begun t same writes now members is = record {
  here = (
    e,
    subst (λ (s : List ℕ). edited new s ≡ Some e) same writes.1,
    now ∙ is,
    λ g. members g ∙ ap (λ (x : Serving). members_of x.held g) is,
  );
  others = others_stay old new source key (Some e) same writes;
}

-- a timeline is put at the source
pub HasPlace-written : (m n : BTreeMap (List ℕ) Serving) (source key : List ℕ) (t : Serving) → key ≡ source
    → UpdatesBy (slice_cmp nat_cmp) (slice_cmp nat_cmp key) m n (Some t) → HasPlace m n source
HasPlace-written m n source key t same writes = record {
  here = subst (λ (s : List ℕ). IsSome (kept n s)) same (subst (λ (o : Option Serving). IsSome o) (sym writes.1) refl);
  others = others_stay m n source key (Some t) same writes;
}

-- what was there is written
pub written_back : (m n : BTreeMap (List ℕ) Serving) (source : List ℕ) (was now : Serving) → Some was ≡ kept m source → now ≡ was
    → UpdatesBy (slice_cmp nat_cmp) (slice_cmp nat_cmp source) m n (Some now) → (s : List ℕ) → kept n s ≡ kept m s
written_back m n source was now found same writes s = elim (same_or_not s source) [
  | inl e ↦
      let here : kept n source ≡ kept m source = writes.1 ∙ ap (λ (x : Serving). Some x) same ∙ found in
      subst (λ (x : List ℕ). kept n x ≡ kept m x) (sym e) here
  | inr apart ↦ others_stay m n source source (Some now) refl writes s apart
]

-- a place that was made is removed
pub removed_again : (m n p : BTreeMap (List ℕ) Serving) (source : List ℕ) → kept m source ≡ None → HasPlace m n source
    → UpdatesBy (slice_cmp nat_cmp) (slice_cmp nat_cmp source) n p None → (s : List ℕ) → kept p s ≡ kept m s
removed_again m n p source none place removes s = elim (same_or_not s source) [
  | inl e ↦
      let here : kept p source ≡ kept m source = removes.1 ∙ sym none in
      subst (λ (x : List ℕ). kept p x ≡ kept m x) (sym e) here
  | inr apart ↦ others_stay n p source source None refl removes s apart ∙ place.others s apart
]

-- nothing is held, and the place goes
pub Settles-none : (m n : BTreeMap (List ℕ) Serving) (source : List ℕ) (t : Serving) → HoldsNothing t.held
    → UpdatesBy (slice_cmp nat_cmp) (slice_cmp nat_cmp source) m n None → Settles m n source t
Settles-none m n source t nothing writes = record {
  here = subst (IsLeftOver source t.held) (sym writes.1) nothing;
  others = others_stay m n source source None refl writes;
}

-- a timeline is put into the place
pub Settles-some : (m n : BTreeMap (List ℕ) Serving) (source : List ℕ) (t put : Serving) → (HoldsNothing t.held → ⊥) → t.source ≡ source → put ≡ t
    → UpdatesBy (slice_cmp nat_cmp) (slice_cmp nat_cmp source) m n (Some put) → Settles m n source t
Settles-some m n source t put some of_source is writes =
    let left : IsLeftOver source t.held (Some put) =
    (ap (λ (x : Serving). x.source) is ∙ of_source, ap (λ (x : Serving). x.held) is, some) in
    record {
      here = subst (IsLeftOver source t.held) (sym writes.1) left;
      others = others_stay m n source source (Some put) refl writes;
    }

-- ---- no edits, and their begin

entry_none : (edits : BTreeMap (List ℕ) Edited) → edits.entries ≡ [] → (source : List ℕ) → edited edits source ≡ None
entry_none edits empty source = ap (lookup (is_at (slice_cmp nat_cmp source))) empty

-- without edits
pub AreEither-none : (served : ℕ → Described → Type 0) (is : List ℕ → Edited → Type 0) (m : BTreeMap (List ℕ) Serving) (edits : BTreeMap (List ℕ) Edited)
    → edits.entries ≡ [] → AreTimelines served m → AreEither served is m edits
AreEither-none served is m edits empty over = record {
  each = λ source. subst (λ (o : Option Edited). IsEither served is source o (kept m source)) (sym (entry_none edits empty source)) (over.each source);
}

-- without edits any more
pub AreEither-all : (served : ℕ → Described → Type 0) (is : List ℕ → Edited → Type 0) (m : BTreeMap (List ℕ) Serving) (edits : BTreeMap (List ℕ) Edited)
    → edits.entries ≡ [] → AreEither served is m edits → AreTimelines served m
AreEither-all served is m edits empty h = record {
  each = λ source. subst (λ (o : Option Edited). IsEither served is source o (kept m source)) (entry_none edits empty source) (h.each source);
}

-- the edits of a source begin from its timeline
begun : (served : ℕ → Described → Type 0) (is : List ℕ → Edited → Type 0) (m n : BTreeMap (List ℕ) Serving) (old new : BTreeMap (List ℕ) Edited)
    (source : List ℕ) (t : Serving) → Begins old new source t → HasPlace m n source
    → ((e : Edited) → e.now ≡ t → ((g : Group) → members_at e.before g ≡ members_of t.held g) → is source e)
    → AreEither served is m old → AreEither served is n new
begun served is m n old new source t begins place so h = record {
  each = λ s. elim (same_or_not s source) [
    | inl e ↦
        let here : IsEither served is source (edited new source) (kept n source) =
        subst (λ (o : Option Edited). IsEither served is source o (kept n source)) (sym begins.here.1) (place.here, so begins.here.0 begins.here.2 begins.here.3) in
        subst (λ (x : List ℕ). IsEither served is x (edited new x) (kept n x)) (sym e) here
    | inr apart ↦
        subst (λ (o : Option Edited). IsEither served is s o (kept n s)) (sym (begins.others s apart))
        (subst (IsEither served is s (edited old s)) (sym (place.others s apart)) (h.each s))
  ];
}

-- what was held of a source without edits
unedited : (served : ℕ → Described → Type 0) (is : List ℕ → Edited → Type 0) (m : BTreeMap (List ℕ) Serving) (old : BTreeMap (List ℕ) Edited)
    (source : List ℕ) → edited old source ≡ None → AreEither served is m old → IsKept served source (kept m source)
unedited served is m old source none h = subst (λ (o : Option Edited). IsEither served is source o (kept m source)) none (h.each source)

-- the timeline is what was kept of the source, or empty where nothing was
abbrev pub IsFrom : List ℕ → Option Serving → Serving → Type 0
IsFrom source None t = (t.source ≡ source) × (t.held ≡ [])
IsFrom source (Some old) t = t ≡ old

from_held : (served : ℕ → Described → Type 0) (source : List ℕ) (o : Option Serving) (t : Serving) → IsFrom source o t → IsKept served source o
    → (t.source ≡ source) × IsHeldOf served source t.held
from_held served source None t is h = (is.0, subst (IsHeldOf served source) (sym is.1) (held_of_kept served source None h))
from_held served source (Some old) t is h = (
  ap (λ (x : Serving). x.source) is ∙ h.of_source,
  subst (λ (x : Serving). IsHeldOf served source x.held) (sym is) h.held,
)

-- the edits of the source begin, or all stays
abbrev pub MayBegin : BTreeMap (List ℕ) Serving → BTreeMap (List ℕ) Serving → BTreeMap (List ℕ) Edited → BTreeMap (List ℕ) Edited → List ℕ → Serving → Type 0
MayBegin m n old new source t =
    (Begins old new source t × HasPlace m n source) ⊎ (((s : List ℕ) → kept n s ≡ kept m s) × (new.entries ≡ old.entries))

pub may_begin : {T E : Type 0} (r : Result T E) (m n : BTreeMap (List ℕ) Serving) (old new : BTreeMap (List ℕ) Edited) (source : List ℕ) (t : Serving)
    → OnOk r (Begins old new source t) → OnOk r (HasPlace m n source) → OnErr r ((s : List ℕ) → kept n s ≡ kept m s) → OnErr r (new.entries ≡ old.entries)
    → MayBegin m n old new source t
may_begin (Ok x) m n old new source t begins place timelines edits = inl (begins, place)
may_begin (Err e) m n old new source t begins place timelines edits = inr (timelines, edits)

pub unless_found : (o : Option Edited) → is_some o ≡ false → o ≡ None
unless_found None e = refl
unless_found (Some x) e = absurd (false≢true (sym e))

-- the same edits, and the same timelines
same_either : (served : ℕ → Described → Type 0) (is : List ℕ → Edited → Type 0) (m n : BTreeMap (List ℕ) Serving) (old new : BTreeMap (List ℕ) Edited)
    → ((s : List ℕ) → kept n s ≡ kept m s) → new.entries ≡ old.entries → AreEither served is m old → AreEither served is n new
same_either served is m n old new timelines entries h = record {
  each = λ s.
      let edits : edited new s ≡ edited old s = ap (lookup (is_at (slice_cmp nat_cmp s))) entries in
      subst (λ (o : Option Edited). IsEither served is s o (kept n s)) (sym edits)
      (subst (IsEither served is s (edited old s)) (sym (timelines s)) (h.each s));
}

pub AreAfter-begun : (served : ℕ → Described → Type 0) (m n : BTreeMap (List ℕ) Serving) (old new : BTreeMap (List ℕ) Edited) (source : List ℕ) (t : Serving)
    → edited old source ≡ None → IsFrom source (kept m source) t → MayBegin m n old new source t
    → AreEither served (IsAfter served) m old → AreEither served (IsAfter served) n new
AreAfter-begun served m n old new source t none is (inr stays) h = same_either served (IsAfter served) m n old new stays.0 stays.1 h
AreAfter-begun served m n old new source t none is (inl begins) h =
    let was = from_held served source (kept m source) t is (unedited served (IsAfter served) m old source none h) in
    begun served (IsAfter served) m n old new source t begins.0 begins.1 (λ e now members. record {
      of_source = ap (λ (x : Serving). x.source) now ∙ was.0;
      held = subst (λ (x : Serving). IsHeldOf served source x.held) (sym now) was.1;
    }) h

pub AreBefore-begun : (served : ℕ → Described → Type 0) (m n : BTreeMap (List ℕ) Serving) (old new : BTreeMap (List ℕ) Edited) (source : List ℕ) (t : Serving)
    → edited old source ≡ None → IsFrom source (kept m source) t → MayBegin m n old new source t
    → AreEither served (IsBefore served) m old → AreEither served (IsBefore served) n new
AreBefore-begun served m n old new source t none is (inr stays) h = same_either served (IsBefore served) m n old new stays.0 stays.1 h
AreBefore-begun served m n old new source t none is (inl begins) h =
    let was = from_held served source (kept m source) t is (unedited served (IsBefore served) m old source none h) in
    begun served (IsBefore served) m n old new source t begins.0 begins.1 (λ e now members. record {
      of_source = ap (λ (x : Serving). x.source) now ∙ was.0;
      old = t.held;
      held = was.1;
      members = members;
    }) h

-- ---- one edit

-- where the edits of a source go on, and the served may change
went_on : (P Q : ℕ → Described → Type 0) (is so : List ℕ → Edited → Type 0) (by : Edited → Edited → Type 0) (m : BTreeMap (List ℕ) Serving)
    (old new : BTreeMap (List ℕ) Edited) (source : List ℕ) → GoesOn old new source by
    → ((a b : Edited) → by a b → is source a → so source b)
    → ((s : List ℕ) → (s ≡ source → ⊥) → IsEither P is s (edited old s) (kept m s) → IsEither Q so s (edited old s) (kept m s))
    → AreEither P is m old → AreEither Q so m new
went_on P Q is so by m old new source goes here there h = record {
  each = λ s. elim (same_or_not s source) [
    | inl e ↦
        let was = subst (λ (o : Option Edited). IsEither P is source o (kept m source)) goes.here.2 (h.each source) in
        let now : IsEither Q so source (edited new source) (kept m source) =
        subst (λ (o : Option Edited). IsEither Q so source o (kept m source)) (sym goes.here.3) (was.0, here goes.here.0 goes.here.1 goes.here.4 was.1) in
        subst (λ (x : List ℕ). IsEither Q so x (edited new x) (kept m x)) (sym e) now
    | inr apart ↦ subst (λ (o : Option Edited). IsEither Q so s o (kept m s)) (sym (goes.others s apart)) (there s apart (h.each s))
  ];
}

-- what was before the edits stays
pub AreBefore-goes : (was : ℕ → Described → Type 0) (m : BTreeMap (List ℕ) Serving) (old new : BTreeMap (List ℕ) Edited) (source : List ℕ)
    → GoesOn old new source Goes → AreEither was (IsBefore was) m old → AreEither was (IsBefore was) m new
AreBefore-goes was m old new source goes h =
    went_on was was (IsBefore was) (IsBefore was) Goes m old new source goes
    (λ a b by is. record {
      of_source = by.source ∙ is.of_source;
      old = is.old;
      held = is.held;
      members = λ g. by.before g ∙ is.members g;
    })
    (λ s apart is. is) h

-- what is said of a source that is not edited
other_source : (P Q : ℕ → Described → Type 0) (s : List ℕ) (o : Option Edited) (p : Option Serving) → (IsKept P s p → IsKept Q s p)
    → ((held : List Held) → IsHeldOf P s held → IsHeldOf Q s held) → IsEither P (IsAfter P) s o p → IsEither Q (IsAfter Q) s o p
other_source P Q s None p timeline holding h = timeline h
other_source P Q s (Some e) p timeline holding h = (h.0, record { of_source = h.1.of_source; held = holding e.now.held h.1.held })

after_more : (served : ℕ → Described → Type 0) (m : BTreeMap (List ℕ) Serving) (old new : BTreeMap (List ℕ) Edited) (node : ℕ) (d : Described)
    → GoesOn old new d.id.source (Makes node (Load d)) → AreEither served (IsAfter served) m old
    → AreEither (WithSegment served node d) (IsAfter (WithSegment served node d)) m new
after_more served m old new node d goes h =
    let P = WithSegment served node d in
    went_on served P (IsAfter served) (IsAfter P) (Makes node (Load d)) m old new d.id.source goes
    (λ a b by is. record {
      of_source = by.goes.source ∙ is.of_source;
      held = held_more served a.now.held b.now.held node d is.held by.held;
    })
    (λ s apart. other_source served P s (edited old s) (kept m s) (kept_there served s (kept m s) node d apart)
    (λ held. held_more_there served s held node d apart)) h

after_less : (served : ℕ → Described → Type 0) (m : BTreeMap (List ℕ) Serving) (old new : BTreeMap (List ℕ) Edited) (node : ℕ) (d : Described)
    → IsAlone served node d → GoesOn old new d.id.source (Makes node (Drop d)) → AreEither served (IsAfter served) m old
    → AreEither (WithoutSegment served node d) (IsAfter (WithoutSegment served node d)) m new
after_less served m old new node d alone goes h =
    let P = WithoutSegment served node d in
    went_on served P (IsAfter served) (IsAfter P) (Makes node (Drop d)) m old new d.id.source goes
    (λ a b by is. record {
      of_source = by.goes.source ∙ is.of_source;
      held = held_less served a.now.held b.now.held node d is.held by.held alone;
    })
    (λ s apart. other_source served P s (edited old s) (kept m s) (less_there served s (kept m s) node d apart)
    (λ held. held_less_there served s held node d apart)) h

after_alike : (P Q : ℕ → Described → Type 0) (m : BTreeMap (List ℕ) Serving) (edits : BTreeMap (List ℕ) Edited)
    → ((i : ℕ) (y : Described) → P i y ↔ Q i y) → AreEither P (IsAfter P) m edits → AreEither Q (IsAfter Q) m edits
after_alike P Q m edits alike h = record {
  each = λ s. other_source P Q s (edited edits s) (kept m s) (kept_alike P Q s (kept m s) alike) (λ held. held_alike P Q s held alike) (h.each s);
}

-- with a change made, the edits are those of the set after it
pub AreAfter-made : (entries : List Entry) (node : ℕ) (s : List Described) (c : Change) (m : BTreeMap (List ℕ) Serving) (old new : BTreeMap (List ℕ) Edited)
    → IsSegmentSet s → IsTrue (is_strict s c) → GoesOn old new (segment_of c).id.source (Makes node c)
    → AreAfter entries node s m old → AreAfter entries node (after s c) m new
AreAfter-made entries node s (Load d) m old new set strict goes h =
    after_alike (WithSegment (ServesWith entries node s) node d) (ServesWith entries node (with_segment d s)) m new (ServesWith-loaded entries node s d)
    (after_more (ServesWith entries node s) m old new node d goes h)
AreAfter-made entries node s (Drop d) m old new set strict goes h =
    after_alike (WithoutSegment (ServesWith entries node s) node d) (ServesWith entries node (without_segment d s)) m new (ServesWith-dropped entries node s d)
    (after_less (ServesWith entries node s) m old new node d (dropped_alone entries node s d set strict) goes h)

some_edits : (o : Option Edited) → IsSome o → (e : Edited) × (o ≡ Some e)
some_edits None h = absurd (false≢true h)
some_edits (Some e) h = (e, refl)

-- a source that is under edits takes a strict change
pub edit_taken : (entries : List Entry) (node : ℕ) (s : List Described) (c : Change) (m : BTreeMap (List ℕ) Serving) (edits : BTreeMap (List ℕ) Edited)
    → AreAfter entries node s m edits → IsTrue (is_strict s c) → IsSome (edited edits (segment_of c).id.source) → TakesEdit edits node c
edit_taken entries node s (Load d) m edits h strict there =
    let P = ServesWith entries node s in
    let it = some_edits (edited edits d.id.source) there in
    let is = subst (λ (o : Option Edited). IsEither P (IsAfter P) d.id.source o (kept m d.id.source)) it.1 (h.each d.id.source) in
    (it.0, it.1, record { of_source = is.1.of_source; new = not_held P it.0.now.held node d is.1.held (loaded_fresh entries node s d strict) })
edit_taken entries node s (Drop d) m edits h strict there =
    let P = ServesWith entries node s in
    let it = some_edits (edited edits d.id.source) there in
    let is = subst (λ (o : Option Edited). IsEither P (IsAfter P) d.id.source o (kept m d.id.source)) it.1 (h.each d.id.source) in
    (it.0, it.1, is_served P node d it.0.now is.1.of_source is.1.held (inl (refl, (strict_drop s d).0 strict)))

-- ---- the end of the edits

-- the edits of a source have ended, and its timeline is settled
settled : (served : ℕ → Described → Type 0) (is : List ℕ → Edited → Type 0) (m n : BTreeMap (List ℕ) Serving) (edits rest : BTreeMap (List ℕ) Edited)
    (source : List ℕ) (t : Serving) → edited rest source ≡ None → ((s : List ℕ) → (s ≡ source → ⊥) → edited rest s ≡ edited edits s)
    → Settles m n source t → IsHeldOf served source t.held → AreEither served is m edits → AreEither served is n rest
settled served is m n edits rest source t gone others settles held h = record {
  each = λ s. elim (same_or_not s source) [
    | inl e ↦
        let here : IsEither served is source (edited rest source) (kept n source) =
        subst (λ (o : Option Edited). IsEither served is source o (kept n source)) (sym gone) (left_kept served source t.held (kept n source) held settles.here) in
        subst (λ (x : List ℕ). IsEither served is x (edited rest x) (kept n x)) (sym e) here
    | inr apart ↦
        subst (λ (o : Option Edited). IsEither served is s o (kept n s)) (sym (others s apart))
        (subst (IsEither served is s (edited edits s)) (sym (settles.others s apart)) (h.each s))
  ];
}

of_edits : (served : ℕ → Described → Type 0) (is : List ℕ → Edited → Type 0) (m : BTreeMap (List ℕ) Serving) (edits : BTreeMap (List ℕ) Edited)
    (source : List ℕ) (e : Edited) → edited edits source ≡ Some e → AreEither served is m edits → IsSome (kept m source) × is source e
of_edits served is m edits source e found h = subst (λ (o : Option Edited). IsEither served is source o (kept m source)) found (h.each source)

pub no_entries : {A : Type 0} (xs : List A) → (0 < length xs → ⊥) → xs ≡ []
no_entries [] none = refl
no_entries (x ∷ xs) none = absurd (none (omega arith))

-- a commit
pub AreAfter-committed : (served : ℕ → Described → Type 0) (m n : BTreeMap (List ℕ) Serving) (edits rest : BTreeMap (List ℕ) Edited)
    (source : List ℕ) (e : Edited) (t : Serving) → edited edits source ≡ Some e → edited rest source ≡ None
    → ((s : List ℕ) → (s ≡ source → ⊥) → edited rest s ≡ edited edits s) → t ≡ e.now → Settles m n source t
    → AreEither served (IsAfter served) m edits → AreEither served (IsAfter served) n rest
AreAfter-committed served m n edits rest source e t found gone others is settles h =
    let it = of_edits served (IsAfter served) m edits source e found h in
    settled served (IsAfter served) m n edits rest source t gone others settles
    (subst (λ (x : Serving). IsHeldOf served source x.held) (sym is) it.1.held) h

-- what is held of a group by its members
among_members : (a b : List Held) → ((g : Group) → members_of a g ≡ members_of b g) → (x : Held) → Contains a x → Contains b x
among_members a b same x there =
    let of = λ (h : Held). same_group h.group x.group in
    let member = Contains-map_back (λ (h : Held). h.member) _ x (in_filter of a x there (same_group-itself x.group)) in
    let found = Contains-map (λ (h : Held). h.member) _ x.member (subst (λ (ms : List Member). Contains ms x.member) (same x.group) member) in
    let kept = from_filter of b found.0 found.1 in
    let group = same_group-exact found.0.group x.group kept.1 in
    let is : found.0 ≡ x = (λ i. record { group = group i; member = found.2 i }) in
    subst (Contains b) is kept.0

-- a roll back
pub AreBefore-rolled_back : (was : ℕ → Described → Type 0) (m n : BTreeMap (List ℕ) Serving) (edits rest : BTreeMap (List ℕ) Edited)
    (source : List ℕ) (e : Edited) (t : Serving) → edited edits source ≡ Some e → edited rest source ≡ None
    → ((s : List ℕ) → (s ≡ source → ⊥) → edited rest s ≡ edited edits s) → ((g : Group) → members_of t.held g ≡ members_at e.before g)
    → Settles m n source t → AreEither was (IsBefore was) m edits → AreEither was (IsBefore was) n rest
AreBefore-rolled_back was m n edits rest source e t found gone others back settles h =
    let it = (of_edits was (IsBefore was) m edits source e found h).1 in
    let same = λ (g : Group). back g ∙ it.members g in
    settled was (IsBefore was) m n edits rest source t gone others settles
    (λ x. (
      λ c. (it.held x).0 (among_members t.held it.old same x c),
      λ e. among_members it.old t.held (λ g. sym (same g)) x ((it.held x).1 e),
    )) h
