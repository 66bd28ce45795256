-- What a history serves with rows, where segments and tombstones come and go.
use Rattle.std.proofs.Common.{◌≡◌, ◌≤◌, Bool, true, false, not, cond, List, [], ◌∷◌, length, Option, Some, None, refl, sym, ap, ◌∙◌, arith, inl, inr, ltb-true}
use Rattle.std.specs.List.{All, filter, list_any}
use Rattle.std.specs.Option.{option_map}
use Rattle.std.specs.Ordering.{is_lt}
use Rattle.std.proofs.lemmas.Bool.{cases_Bool, lt-ltb, or_parts, not-true}
use Rattle.std.proofs.lemmas.List.Elements.{All-head, All-tail, All-filter, All-weaker}
use Rattle.std.proofs.lemmas.List.Kept.{AllPairs-filter}
use Rattle.std.proofs.lemmas.Option.{same_Some}
use Rattle.druid_segment_id.specs.Identifier.{Identifier, identifier_text, same_identifier}
use Rattle.druid_segment_id.specs.IdentifierLaws.{same_identifier-true}
use Rattle.druid_segment_descriptor.specs.Described.{Described, same_described}
use Rattle.druid_segment_descriptor.specs.Reply.{IsBefore, max_segments}
use Rattle.druid_segment_descriptor.specs.Replay.{IsSegmentSet, shares_identifier, is_before, with_segment, without_segment, is_strict, has_room}
use Rattle.druid_segment_descriptor.specs.declared.change.Change.TheVariants.{Load}
use Rattle.druid_segment_descriptor.proofs.DescribedLemmas.{same_described-decides}
use Rattle.druid_segment_descriptor.proofs.ReplayLemmas.{AreInOrder, in_order, are_sorted, first_before, rest_in_order, before_trans, is_before-true, replay_from-set}
use Rattle.druid_segment_descriptor.proofs.SortedLemmas.{not_before_itself}
use Rattle.druid_sync_history.specs.Kept.{Kept, IsKept, described_named}
use Rattle.druid_segment_rows.specs.Segment.{Segment}
use Rattle.druid_partial_scan.specs.Once.{segment_named}
use Rattle.druid_node.specs.State.{descriptor_of, descriptors_of, with_rows}

-- ---- the set

-- what is kept serves a set of segments
pub kept_set : (kept : Kept) → IsKept kept → IsSegmentSet kept.set
kept_set kept h = replay_from-set [] kept.set h.history (record { few = omega arith; sorted = λ k d l. absurd (omega arith) }) h.stands.set

few_with_rows : (s : List Described) → length (with_rows s) ≤ length s
few_with_rows [] = omega arith
few_with_rows (x ∷ xs) = by_test (few_with_rows xs) x.tombstone where
  by_test : length (with_rows xs) ≤ length xs → (b : Bool) → length (cond (not b) (x ∷ with_rows xs) (with_rows xs)) ≤ length (x ∷ xs)
  by_test rest true = omega (arith, rest)
  by_test rest false = omega (arith, rest)

-- those with rows are a set too
pub with_rows-set : (s : List Described) → IsSegmentSet s → IsSegmentSet (with_rows s)
with_rows-set s h = record {
  few = omega (arith, few_with_rows s, h.few);
  sorted = are_sorted (with_rows s) (AllPairs-filter IsBefore (λ x. not x.tombstone) s (in_order s h.sorted));
}

none_named : (f : Described → Bool) (s : List Described) → list_any f s ≡ false → list_any f (with_rows s) ≡ false
none_named f [] none = none
none_named f (x ∷ xs) none =
    let parts = or_parts (f x) (list_any f xs) none in
    by_test (none_named f xs parts.1) parts.0 x.tombstone
  where
    by_test : list_any f (with_rows xs) ≡ false → f x ≡ false → (b : Bool) → list_any f (cond (not b) (x ∷ with_rows xs) (with_rows xs)) ≡ false
    by_test rest here true = rest
    by_test rest here false = rw here rest

-- a load that is strict, and for which there is room, is so among those with rows
pub with_rows-strict : (s : List Described) (d : Described) → is_strict s (Load d) ≡ true → is_strict (with_rows s) (Load d) ≡ true
with_rows-strict s d strict = ap not (none_named (λ x. shares_identifier x d) s (not-true (list_any (λ x. shares_identifier x d) s) strict))

pub with_rows-room : (s : List Described) (d : Described) → has_room s (Load d) ≡ true → has_room (with_rows s) (Load d) ≡ true
with_rows-room s d room =
    let below = ltb-true (length s) max_segments room in
    lt-ltb (length (with_rows s)) max_segments (omega (arith, below, few_with_rows s))

-- ---- one more

-- a tombstone adds nothing with rows
pub with_rows-over : (d : Described) (s : List Described) → d.tombstone ≡ true → with_rows (with_segment d s) ≡ with_rows s
with_rows-over d s over = by_list s where
  passed : (zs : List Described) → with_rows (d ∷ zs) ≡ with_rows zs
  passed zs = ap (λ b. cond (not b) (d ∷ with_rows zs) (with_rows zs)) over

  by_list : (s : List Described) → with_rows (with_segment d s) ≡ with_rows s
  by_list [] = passed []
  by_list (x ∷ xs) = by_test (by_list xs) (is_before d x) where
    by_test : with_rows (with_segment d xs) ≡ with_rows xs → (b : Bool) → with_rows (cond b (d ∷ x ∷ xs) (x ∷ with_segment d xs)) ≡ with_rows (x ∷ xs)
    by_test rest true = passed (x ∷ xs)
    by_test rest false = ap (λ zs. cond (not x.tombstone) (x ∷ zs) zs) rest

-- what comes before all others is put in front of them
put_first : (d : Described) (s : List Described) → All (IsBefore d) s → with_segment d s ≡ d ∷ s
put_first d [] all = refl
put_first d (x ∷ xs) all = ap (λ o. cond (is_lt o) (d ∷ x ∷ xs) (x ∷ with_segment d xs)) (All-head (IsBefore d) x xs all)

-- a segment with rows is put at its place among those with rows
pub with_rows-more : (d : Described) (s : List Described) → AreInOrder s → d.tombstone ≡ false → with_rows (with_segment d s) ≡ with_segment d (with_rows s)
with_rows-more d s order ordinary = by_list s order where
  front : (zs : List Described) → with_rows (d ∷ zs) ≡ d ∷ with_rows zs
  front zs = ap (λ b. cond (not b) (d ∷ with_rows zs) (with_rows zs)) ordinary

  by_list : (s : List Described) → AreInOrder s → with_rows (with_segment d s) ≡ with_segment d (with_rows s)
  by_list [] order = front []
  by_list (x ∷ xs) order = by_test (by_list xs (rest_in_order x xs order)) (is_before d x) refl x.tombstone refl where
    by_test : with_rows (with_segment d xs) ≡ with_segment d (with_rows xs) → (b : Bool) → is_before d x ≡ b → (t : Bool) → x.tombstone ≡ t
        → with_rows (cond b (d ∷ x ∷ xs) (x ∷ with_segment d xs)) ≡ with_segment d (cond (not t) (x ∷ with_rows xs) (with_rows xs))
    by_test rest true e true f =
        let first = is_before-true d x e in
        let later = All-weaker (IsBefore x) (IsBefore d) (λ y next. before_trans d x y first next) xs (first_before x xs order) in
        front (x ∷ xs) ∙ ap (λ b. d ∷ cond (not b) (x ∷ with_rows xs) (with_rows xs)) f
        ∙ sym (put_first d (with_rows xs) (All-filter (λ y. not y.tombstone) (IsBefore d) xs later))
    by_test rest true e false f =
        front (x ∷ xs) ∙ ap (λ b. d ∷ cond (not b) (x ∷ with_rows xs) (with_rows xs)) f
        ∙ sym (ap (λ b. cond b (d ∷ x ∷ with_rows xs) (x ∷ with_segment d (with_rows xs))) e)
    by_test rest false e true f =
        ap (λ b. cond (not b) (x ∷ with_rows (with_segment d xs)) (with_rows (with_segment d xs))) f ∙ rest
    by_test rest false e false f =
        ap (λ b. cond (not b) (x ∷ with_rows (with_segment d xs)) (with_rows (with_segment d xs))) f ∙ ap (λ zs. x ∷ zs) rest
        ∙ sym (ap (λ b. cond b (d ∷ x ∷ with_rows xs) (x ∷ with_segment d (with_rows xs))) e)

-- ---- one less

swapped : (p q : Described → Bool) (s : List Described) → filter p (filter q s) ≡ filter q (filter p s)
swapped p q [] = refl
swapped p q (x ∷ xs) = by_tests (swapped p q xs) (p x) (q x) refl refl where
  by_tests : filter p (filter q xs) ≡ filter q (filter p xs) → (a b : Bool) → p x ≡ a → q x ≡ b
      → filter p (cond b (x ∷ filter q xs) (filter q xs)) ≡ filter q (cond a (x ∷ filter p xs) (filter p xs))
  by_tests rest true true e f = rw (e, f) (ap (λ zs. x ∷ zs) rest)
  by_tests rest true false e f = rw f rest
  by_tests rest false true e f = rw e rest
  by_tests rest false false e f = rest

pub with_rows-less : (d : Described) (s : List Described) → with_rows (without_segment d s) ≡ without_segment d (with_rows s)
with_rows-less d s = swapped (λ x. not x.tombstone) (λ x. not (same_described x d)) s

-- a tombstone that goes takes nothing with rows
pub with_rows-under : (d : Described) (s : List Described) → d.tombstone ≡ true → with_rows (without_segment d s) ≡ with_rows s
with_rows-under d [] over = refl
with_rows-under d (x ∷ xs) over = by_test (with_rows-under d xs over) (same_described x d) refl where
  by_test : with_rows (without_segment d xs) ≡ with_rows xs → (b : Bool) → same_described x d ≡ b
      → with_rows (cond (not b) (x ∷ without_segment d xs) (without_segment d xs)) ≡ with_rows (x ∷ xs)
  by_test rest true e =
      let same : x.tombstone ≡ true = ap (λ (y : Described). y.tombstone) ((same_described-decides x d).0 e) ∙ over in
      rest ∙ sym (ap (λ b. cond (not b) (x ∷ with_rows xs) (with_rows xs)) same)
  by_test rest false e = ap (λ zs. cond (not x.tombstone) (x ∷ zs) zs) rest

-- ---- what is found by name

pub named_id : (s : List Described) (id : Identifier) (d : Described) → described_named id s ≡ Some d → id ≡ d.id
named_id [] id d e = absurd (cc)
named_id (x ∷ xs) id d e =
    elim (cases_Bool (same_identifier id x.id)) [
      | inl here ↦
          let found : Some x ≡ Some d = sym (ap (λ b. cond b (Some x) (described_named id xs)) here) ∙ e in
          same_identifier-true id x.id here ∙ ap (λ (z : Described). z.id) (same_Some x d found)
      | inr apart ↦ named_id xs id d (sym (ap (λ b. cond b (Some x) (described_named id xs)) apart) ∙ e)
    ]

passed_over : (x : Described) (s : List Described) (id : Identifier) (o : Option Described) → same_identifier id x.id ≡ false → described_named id s ≡ o → (b : Bool)
    → described_named id (cond (not b) (x ∷ s) s) ≡ o
passed_over x s id o apart rest true = rest
passed_over x s id o apart rest false = ap (λ b. cond b (Some x) (described_named id s)) apart ∙ rest

-- a segment that is found is found among those with rows
pub named_ordinary : (s : List Described) (id : Identifier) (d : Described) → d.tombstone ≡ false → described_named id s ≡ Some d → described_named id (with_rows s) ≡ Some d
named_ordinary [] id d ordinary e = absurd (cc)
named_ordinary (x ∷ xs) id d ordinary e =
    elim (cases_Bool (same_identifier id x.id)) [
      | inl here ↦
          let found : Some x ≡ Some d = sym (ap (λ b. cond b (Some x) (described_named id xs)) here) ∙ e in
          let rows : x.tombstone ≡ false = ap (λ (z : Described). z.tombstone) (same_Some x d found) ∙ ordinary in
          ap (λ b. described_named id (cond (not b) (x ∷ with_rows xs) (with_rows xs))) rows
          ∙ ap (λ b. cond b (Some x) (described_named id (with_rows xs))) here ∙ found
      | inr apart ↦
          let rest = named_ordinary xs id d ordinary (sym (ap (λ b. cond b (Some x) (described_named id xs)) apart) ∙ e) in
          passed_over x (with_rows xs) id (Some d) apart rest x.tombstone
    ]

none_after : (x : Described) (s : List Described) (id : Identifier) → id ≡ x.id → All (IsBefore x) s → described_named id s ≡ None
none_after x [] id same all = refl
none_after x (y ∷ ys) id same all =
    elim (cases_Bool (same_identifier id y.id)) [
      | inl here ↦ absurd (not_before_itself x y (All-head (IsBefore x) y ys all) (ap identifier_text (sym same ∙ same_identifier-true id y.id here)))
      | inr apart ↦ ap (λ b. cond b (Some y) (described_named id ys)) apart ∙ none_after x ys id same (All-tail (IsBefore x) y ys all)
    ]

-- a tombstone is not found among those with rows, and nor is another of its identifier
pub named_tombstone : (s : List Described) (id : Identifier) (d : Described) → AreInOrder s → d.tombstone ≡ true → described_named id s ≡ Some d → described_named id (with_rows s) ≡ None
named_tombstone [] id d order over e = refl
named_tombstone (x ∷ xs) id d order over e =
    elim (cases_Bool (same_identifier id x.id)) [
      | inl here ↦
          let found : Some x ≡ Some d = sym (ap (λ b. cond b (Some x) (described_named id xs)) here) ∙ e in
          let bare : x.tombstone ≡ true = ap (λ (z : Described). z.tombstone) (same_Some x d found) ∙ over in
          ap (λ b. described_named id (cond (not b) (x ∷ with_rows xs) (with_rows xs))) bare
          ∙ none_after x (with_rows xs) id (same_identifier-true id x.id here) (All-filter (λ y. not y.tombstone) (IsBefore x) xs (first_before x xs order))
      | inr apart ↦
          let rest = named_tombstone xs id d (rest_in_order x xs order) over (sym (ap (λ b. cond b (Some x) (described_named id xs)) apart) ∙ e) in
          passed_over x (with_rows xs) id None apart rest x.tombstone
    ]

-- the descriptor of that identifier is the descriptor of the segment of that identifier
pub named_held : (held : List Segment) (id : Identifier) → described_named id (descriptors_of held) ≡ option_map descriptor_of (segment_named id held)
named_held [] id = refl
named_held (s ∷ more) id = by_test (named_held more id) (same_identifier id s.descriptor.id) where
  by_test : described_named id (descriptors_of more) ≡ option_map descriptor_of (segment_named id more) → (b : Bool)
      → cond b (Some s.descriptor) (described_named id (descriptors_of more)) ≡ option_map descriptor_of (cond b (Some s) (segment_named id more))
  by_test rest true = refl
  by_test rest false = rest
