-- Segments in the order of their identifiers: one more, and one less.
use Rattle.std.proofs.Common.{◌≡◌, ◌⊎◌, ◌↔◌, Bool, true, false, cond, ◌||◌, List, [], ◌∷◌, map, Option, Some, None, refl, sym, ap, ◌∙◌, subst, arith, inl, inr}
use Rattle.std.specs.BTreeMap.{insert_entry, is_at}
use Rattle.std.specs.List.{All, Contains, list_any}
use Rattle.std.specs.Map.{lookup, remove_entry, values_of}
use Rattle.std.specs.Option.{is_some, option_map}
use Rattle.std.specs.Ordering.{is_eq, match_ordering}
use Rattle.std.specs.declared.cmp.Ordering.{Ordering}
use Rattle.std.specs.declared.cmp.Ordering.TheVariants.{Less, Equal, Greater}
use Rattle.std.proofs.lemmas.Bool.{cases_Bool, false≢true, not-true}
use Rattle.std.proofs.lemmas.List.Elements.{All-nil, All-cons, All-head, All-tail}
use Rattle.std.proofs.lemmas.Option.{same_Some}
use Rattle.druid_segment_id.specs.Identifier.{Identifier, same_identifier, identifier_cmp}
use Rattle.druid_segment_id.specs.IdentifierLaws.{identifier_cmp-ties, same_identifier-true}
use Rattle.druid_segment_id.proofs.EqualLemmas.{same_identifier-decides}
use Rattle.druid_segment_descriptor.specs.Described.{Described, IsDescribed, same_described}
use Rattle.druid_segment_descriptor.specs.Replay.{IsSegmentSet, shares_identifier, with_segment, without_segment, is_strict, has_room}
use Rattle.druid_segment_descriptor.specs.declared.change.Change.TheVariants.{Load, Drop}
use Rattle.druid_segment_descriptor.proofs.DescribedLemmas.{same_described-decides}
use Rattle.druid_base.proofs.MemberLemmas.{Contains-nil, Contains-cons, Contains-later}
use Rattle.druid_segment_descriptor.proofs.ReplayLemmas.{AreInOrder, in_order, after-set}
use Rattle.druid_sync_history.specs.Segments.{IsEntry}
use Rattle.druid_sync_history.proofs.SetLemmas as sets
use Rattle.druid_segment_rows.specs.Segment.{Segment}
use Rattle.druid_node.specs.State.{descriptor_of, descriptors_of, HoldsMore, HoldsLess}
use Rattle.druid_partial_scan.specs.Once.{segment_named}
use Rattle.druid_node.specs.Held.{IsWhole, IsHeld, with_held, without_held}

-- two identifiers that tie are one
tied : (a b : Identifier) → identifier_cmp a b ≡ Equal → a ≡ b
tied a b e = same_identifier-true a b (identifier_cmp-ties a b ∙ ap is_eq e)

-- ---- the list and its descriptors

-- the descriptors at their identifiers
abbrev keyed : List Segment → List sets.Entry
keyed xs = map (λ s. (s.descriptor.id, s.descriptor)) xs

values-keyed : (xs : List Segment) → values_of (keyed xs) ≡ descriptors_of xs
values-keyed [] = refl
values-keyed (x ∷ xs) = ap (λ ds. x.descriptor ∷ ds) (values-keyed xs)

keyed_each : (xs : List Segment) → All IsWhole xs → All IsEntry (keyed xs)
keyed_each [] each = All-nil IsEntry
keyed_each (x ∷ xs) each =
    let whole : IsWhole x = All-head IsWhole x xs each in
    All-cons IsEntry (x.descriptor.id, x.descriptor) (keyed xs) (refl, whole.described) (keyed_each xs (All-tail IsWhole x xs each))

lookup_step : (b : Bool) (x : Segment) (o : Option Segment) → cond b (Some x.descriptor) (option_map descriptor_of o) ≡ option_map descriptor_of (cond b (Some x) o)
lookup_step true x o = refl
lookup_step false x o = refl

lookup-keyed : (xs : List Segment) (id : Identifier) → lookup (is_at (identifier_cmp id)) (keyed xs) ≡ option_map descriptor_of (segment_named id xs)
lookup-keyed [] id = refl
lookup-keyed (x ∷ xs) id =
    let here = sym (identifier_cmp-ties id x.descriptor.id) in
    let rest = lookup-keyed xs id in
    (λ i. cond (here i) (Some x.descriptor) (rest i)) ∙ lookup_step (same_identifier id x.descriptor.id) x (segment_named id xs)

insert_keyed_step : (o : Ordering) (s x : Segment) (xs : List Segment) → (o ≡ Equal → s.descriptor.id ≡ x.descriptor.id)
    → match_ordering o ((s.descriptor.id, s.descriptor) ∷ (x.descriptor.id, x.descriptor) ∷ keyed xs) ((x.descriptor.id, s.descriptor) ∷ keyed xs) ((x.descriptor.id, x.descriptor) ∷ keyed (with_held s xs))
    ≡ keyed (match_ordering o (s ∷ x ∷ xs) (s ∷ xs) (x ∷ with_held s xs))
insert_keyed_step Less s x xs level = refl
insert_keyed_step Equal s x xs level = λ i. (sym (level refl) i, s.descriptor) ∷ keyed xs
insert_keyed_step Greater s x xs level = refl

insert-keyed : (xs : List Segment) (s : Segment) → insert_entry identifier_cmp (keyed xs) s.descriptor.id s.descriptor ≡ keyed (with_held s xs)
insert-keyed [] s = refl
insert-keyed (x ∷ xs) s =
    let rest = insert-keyed xs s in
    let o = identifier_cmp s.descriptor.id x.descriptor.id in
    (λ i. match_ordering o ((s.descriptor.id, s.descriptor) ∷ (x.descriptor.id, x.descriptor) ∷ keyed xs) ((x.descriptor.id, s.descriptor) ∷ keyed xs) ((x.descriptor.id, x.descriptor) ∷ rest i))
    ∙ insert_keyed_step o s x xs (tied s.descriptor.id x.descriptor.id)

remove_keyed_step : (b : Bool) (x : Segment) (xs ys : List Segment) → cond b (keyed xs) ((x.descriptor.id, x.descriptor) ∷ keyed ys) ≡ keyed (cond b xs (x ∷ ys))
remove_keyed_step true x xs ys = refl
remove_keyed_step false x xs ys = refl

remove-keyed : (xs : List Segment) (id : Identifier) → remove_entry (is_at (identifier_cmp id)) (keyed xs) ≡ keyed (without_held id xs)
remove-keyed [] id = refl
remove-keyed (x ∷ xs) id =
    let here = sym (identifier_cmp-ties id x.descriptor.id) in
    let rest = remove-keyed xs id in
    (λ i. cond (here i) (keyed xs) ((x.descriptor.id, x.descriptor) ∷ rest i)) ∙ remove_keyed_step (same_identifier id x.descriptor.id) x xs (without_held id xs)

-- an identifier that is held, by the descriptors
pub held-shares : (xs : List Segment) (d : Described) → IsDescribed d → All IsWhole xs → is_some (segment_named d.id xs) ≡ list_any (λ x. shares_identifier x d) (descriptors_of xs)
held-shares xs d h each =
    sym (some_map (segment_named d.id xs)) ∙ ap is_some (sym (lookup-keyed xs d.id)) ∙ sets.found-shares (keyed xs) d h (keyed_each xs each)
    ∙ ap (λ ds. list_any (λ x. shares_identifier x d) ds) (values-keyed xs)
  where
    some_map : (o : Option Segment) → is_some (option_map descriptor_of o) ≡ is_some o
    some_map None = refl
    some_map (Some x) = refl

-- a segment that is held is among the descriptors
pub held-strict : (xs : List Segment) (id : Identifier) (s : Segment) → segment_named id xs ≡ Some s → is_strict (descriptors_of xs) (Drop s.descriptor) ≡ true
held-strict [] id s e = absurd (cc)
held-strict (x ∷ xs) id s e =
    elim (cases_Bool (same_identifier id x.descriptor.id)) [
      | inl here ↦
          let found : Some x ≡ Some s = sym (ap (λ b. cond b (Some x) (segment_named id xs)) here) ∙ e in
          let one : same_described x.descriptor s.descriptor ≡ true = (same_described-decides x.descriptor s.descriptor).1 (ap descriptor_of (same_Some x s found)) in
          or_first (same_described x.descriptor s.descriptor) (list_any (λ y. same_described y s.descriptor) (descriptors_of xs)) one
      | inr apart ↦
          let later = held-strict xs id s (sym (ap (λ b. cond b (Some x) (segment_named id xs)) apart) ∙ e) in
          or_later (same_described x.descriptor s.descriptor) (list_any (λ y. same_described y s.descriptor) (descriptors_of xs)) later
    ]
  where
    or_first : (a b : Bool) → a ≡ true → (a || b) ≡ true
    or_first true b h = refl
    or_first false b h = absurd (false≢true h)

    or_later : (a b : Bool) → b ≡ true → (a || b) ≡ true
    or_later true b h = refl
    or_later false b h = h

-- none is held
pub not_some : (o : Option Segment) → is_some o ≡ false → o ≡ None
not_some None e = refl
not_some (Some x) e = absurd (false≢true (sym e))

pub absent : (xs : List Segment) (d : Described) → IsDescribed d → All IsWhole xs → is_strict (descriptors_of xs) (Load d) ≡ true → segment_named d.id xs ≡ None
absent xs d h each strict = not_some (segment_named d.id xs) (held-shares xs d h each ∙ not-true (list_any (λ x. shares_identifier x d) (descriptors_of xs)) strict)

pub with_held-descriptors : (xs : List Segment) (s : Segment) → IsDescribed s.descriptor → All IsWhole xs → segment_named s.descriptor.id xs ≡ None
    → descriptors_of (with_held s xs) ≡ with_segment s.descriptor (descriptors_of xs)
with_held-descriptors xs s h each none =
    let d = s.descriptor in
    let entries = keyed_each xs each in
    let apart : list_any (λ x. shares_identifier x d) (values_of (keyed xs)) ≡ false =
    ap (λ ds. list_any (λ x. shares_identifier x d) ds) (values-keyed xs) ∙ sym (held-shares xs d h each) ∙ ap is_some none in
    sym (values-keyed (with_held s xs)) ∙ ap values_of (sym (insert-keyed xs s)) ∙ sets.inserted-values (keyed xs) d h entries apart ∙ ap (with_segment d) (values-keyed xs)

pub without_held-descriptors : (xs : List Segment) (id : Identifier) (s : Segment) → IsHeld xs → IsDescribed s.descriptor → id ≡ s.descriptor.id → segment_named id xs ≡ Some s
    → descriptors_of (without_held id xs) ≡ without_segment s.descriptor (descriptors_of xs)
without_held-descriptors xs id s held h same found =
    let d = s.descriptor in
    let entries = keyed_each xs held.each in
    let order : AreInOrder (values_of (keyed xs)) = subst AreInOrder (sym (values-keyed xs)) (in_order (descriptors_of xs) held.set.sorted) in
    let there : list_any (λ x. same_described x d) (values_of (keyed xs)) ≡ true = ap (λ ds. list_any (λ x. same_described x d) ds) (values-keyed xs) ∙ held-strict xs id s found in
    let removed : remove_entry (sets.at_id d) (keyed xs) ≡ keyed (without_held id xs) = ap (λ (k : Identifier). remove_entry (is_at (identifier_cmp k)) (keyed xs)) (sym same) ∙ remove-keyed xs id in
    sym (values-keyed (without_held id xs)) ∙ ap values_of (sym removed) ∙ sets.removed-values (keyed xs) d h entries order there ∙ ap (without_segment d) (values-keyed xs)

-- ---- what holds of each

pub All-with_held : (P : Segment → Type 0) (s : Segment) (xs : List Segment) → P s → All P xs → All P (with_held s xs)
All-with_held P s [] here all = All-cons P s [] here all
All-with_held P s (x ∷ xs) here all = by_order (All-with_held P s xs here (All-tail P x xs all)) (identifier_cmp s.descriptor.id x.descriptor.id) where
  by_order : All P (with_held s xs) → (o : Ordering) → All P (match_ordering o (s ∷ x ∷ xs) (s ∷ xs) (x ∷ with_held s xs))
  by_order rest Less = All-cons P s (x ∷ xs) here all
  by_order rest Equal = All-cons P s xs here (All-tail P x xs all)
  by_order rest Greater = All-cons P x (with_held s xs) (All-head P x xs all) rest

pub All-without_held : (P : Segment → Type 0) (id : Identifier) (xs : List Segment) → All P xs → All P (without_held id xs)
All-without_held P id [] all = all
All-without_held P id (x ∷ xs) all = by_test (All-without_held P id xs (All-tail P x xs all)) (same_identifier id x.descriptor.id) where
  by_test : All P (without_held id xs) → (b : Bool) → All P (cond b xs (x ∷ without_held id xs))
  by_test rest true = All-tail P x xs all
  by_test rest false = All-cons P x (without_held id xs) (All-head P x xs all) rest

-- ---- members

-- what is not found is not there
pub not_there : (xs : List Segment) (id : Identifier) (y : Segment) → segment_named id xs ≡ None → Contains xs y → y.descriptor.id ≡ id → ⊥
not_there [] id y none there same = Contains-nil y there
not_there (x ∷ xs) id y none there same =
    elim (cases_Bool (same_identifier id x.descriptor.id)) [
      | inl here ↦ let found : Some x ≡ None = sym (ap (λ b. cond b (Some x) (segment_named id xs)) here) ∙ none in absurd (cc)
      | inr apart ↦ elim (Contains-cons x xs y there) [
        | inl first ↦
            let level : same_identifier id x.descriptor.id ≡ true = (same_identifier-decides id x.descriptor.id).1 (sym same ∙ ap (λ (s : Segment). s.descriptor.id) (sym first)) in
            false≢true (sym apart ∙ level)
        | inr later ↦ not_there xs id y (sym (ap (λ b. cond b (Some x) (segment_named id xs)) apart) ∙ none) later same
      ]
    ]

-- an identifier that is not held is apart from the first, and not held after it
absent_parts : (x : Segment) (xs : List Segment) (id : Identifier) → segment_named id (x ∷ xs) ≡ None → (same_identifier id x.descriptor.id ≡ false) × (segment_named id xs ≡ None)
absent_parts x xs id none = by_test (same_identifier id x.descriptor.id) none where
  by_test : (b : Bool) → cond b (Some x) (segment_named id xs) ≡ None → (b ≡ false) × (segment_named id xs ≡ None)
  by_test true e = absurd (cc)
  by_test false e = (refl, e)

not_level : (a b : Identifier) (o : Ordering) → identifier_cmp a b ≡ o → same_identifier a b ≡ false → o ≡ Equal → ⊥
not_level a b o is apart level = false≢true (sym apart ∙ identifier_cmp-ties a b ∙ ap is_eq (is ∙ level))

members-with_held : (xs : List Segment) (s y : Segment) → segment_named s.descriptor.id xs ≡ None → Contains (with_held s xs) y ↔ ((y ≡ s) ⊎ Contains xs y)
members-with_held [] s y none = (
  λ there. elim (Contains-cons s [] y there) [ inl here ↦ inl (sym here) | inr later ↦ absurd (Contains-nil y later) ],
  λ either. elim either [ inl same ↦ (0, omega arith, sym same) | inr later ↦ absurd (Contains-nil y later) ],
)
members-with_held (x ∷ xs) s y none =
    let parts = absent_parts x xs s.descriptor.id none in
    by_order (members-with_held xs s y parts.1) (identifier_cmp s.descriptor.id x.descriptor.id) (λ o e. not_level s.descriptor.id x.descriptor.id o e parts.0) refl
  where
    front : (zs : List Segment) → Contains (s ∷ zs) y ↔ ((y ≡ s) ⊎ Contains zs y)
    front zs = (
      λ there. elim (Contains-cons s zs y there) [ inl here ↦ inl (sym here) | inr later ↦ inr later ],
      λ either. elim either [ inl same ↦ (0, omega arith, sym same) | inr later ↦ Contains-later s zs y later ],
    )

    beyond : Contains (with_held s xs) y ↔ ((y ≡ s) ⊎ Contains xs y) → Contains (x ∷ with_held s xs) y ↔ ((y ≡ s) ⊎ Contains (x ∷ xs) y)
    beyond rest = (
      λ there. elim (Contains-cons x (with_held s xs) y there) [
        | inl here ↦ inr (0, omega arith, here)
        | inr later ↦ elim (rest.0 later) [ inl same ↦ inl same | inr old ↦ inr (Contains-later x xs y old) ]
      ],
      λ either. elim either [
        | inl same ↦ Contains-later x (with_held s xs) y (rest.1 (inl same))
        | inr there ↦ elim (Contains-cons x xs y there) [
          | inl here ↦ (0, omega arith, here)
          | inr later ↦ Contains-later x (with_held s xs) y (rest.1 (inr later))
        ]
      ],
    )

    by_order : Contains (with_held s xs) y ↔ ((y ≡ s) ⊎ Contains xs y) → (o : Ordering) → ((p : Ordering) → o ≡ p → p ≡ Equal → ⊥) → o ≡ o
        → Contains (match_ordering o (s ∷ x ∷ xs) (s ∷ xs) (x ∷ with_held s xs)) y ↔ ((y ≡ s) ⊎ Contains (x ∷ xs) y)
    by_order rest Less apart same = front (x ∷ xs)
    by_order rest Equal apart same = absurd (apart Equal refl refl)
    by_order rest Greater apart same = beyond rest

pub holds_more : (xs : List Segment) (s : Segment) → segment_named s.descriptor.id xs ≡ None → HoldsMore xs (with_held s xs) s
holds_more xs s none = record { absent = none; members = λ y. members-with_held xs s y none }

was_there : (xs : List Segment) (id : Identifier) (y : Segment) → Contains (without_held id xs) y → Contains xs y
was_there [] id y there = there
was_there (x ∷ xs) id y there = by_test (was_there xs id y) (same_identifier id x.descriptor.id) there where
  by_test : (Contains (without_held id xs) y → Contains xs y) → (b : Bool) → Contains (cond b xs (x ∷ without_held id xs)) y → Contains (x ∷ xs) y
  by_test rest true there = Contains-later x xs y there
  by_test rest false there =
      elim (Contains-cons x (without_held id xs) y there) [ inl here ↦ (0, omega arith, here) | inr later ↦ Contains-later x xs y (rest later) ]

is_kept : (xs : List Segment) (id : Identifier) (y : Segment) → (y.descriptor.id ≡ id → ⊥) → Contains xs y → Contains (without_held id xs) y
is_kept [] id y other there = there
is_kept (x ∷ xs) id y other there = by_test (is_kept xs id y other) (same_identifier id x.descriptor.id) refl where
  by_test : (Contains xs y → Contains (without_held id xs) y) → (b : Bool) → same_identifier id x.descriptor.id ≡ b → Contains (cond b xs (x ∷ without_held id xs)) y
  by_test rest true e =
      elim (Contains-cons x xs y there) [
        | inl here ↦ absurd (other (ap (λ (s : Segment). s.descriptor.id) (sym here) ∙ sym (same_identifier-true id x.descriptor.id e)))
        | inr later ↦ later
      ]
  by_test rest false e =
      elim (Contains-cons x xs y there) [ inl here ↦ (0, omega arith, here) | inr later ↦ Contains-later x (without_held id xs) y (rest later) ]

pub holds_less : (xs : List Segment) (id : Identifier) → segment_named id (without_held id xs) ≡ None → HoldsLess xs (without_held id xs) id
holds_less xs id gone = record {
  members = λ y. (λ there. (not_there (without_held id xs) id y gone there, was_there xs id y there), λ both. is_kept xs id y both.0 both.1);
}

-- a segment that was put at its place, and is taken out again
pub undone : (xs : List Segment) (s : Segment) → segment_named s.descriptor.id xs ≡ None → without_held s.descriptor.id (with_held s xs) ≡ xs
undone [] s none = front [] s where
  front : (zs : List Segment) (s : Segment) → without_held s.descriptor.id (s ∷ zs) ≡ zs
  front zs s = let same : same_identifier s.descriptor.id s.descriptor.id ≡ true = (same_identifier-decides s.descriptor.id s.descriptor.id).1 refl in rw same refl
undone (x ∷ xs) s none =
    let parts = absent_parts x xs s.descriptor.id none in
    by_order (undone xs s parts.1) parts.0 (identifier_cmp s.descriptor.id x.descriptor.id) (λ o e. not_level s.descriptor.id x.descriptor.id o e parts.0)
  where
    by_order : without_held s.descriptor.id (with_held s xs) ≡ xs → same_identifier s.descriptor.id x.descriptor.id ≡ false → (o : Ordering) → ((p : Ordering) → o ≡ p → p ≡ Equal → ⊥)
        → without_held s.descriptor.id (match_ordering o (s ∷ x ∷ xs) (s ∷ xs) (x ∷ with_held s xs)) ≡ x ∷ xs
    by_order rest other Less apart =
        let same : same_identifier s.descriptor.id s.descriptor.id ≡ true = (same_identifier-decides s.descriptor.id s.descriptor.id).1 refl in rw same refl
    by_order rest other Equal apart = absurd (apart Equal refl refl)
    by_order rest other Greater apart = rw other (ap (λ zs. x ∷ zs) rest)

-- it is found
pub found_there : (xs : List Segment) (s : Segment) → segment_named s.descriptor.id xs ≡ None → is_some (segment_named s.descriptor.id (with_held s xs)) ≡ true
found_there [] s none = let same : same_identifier s.descriptor.id s.descriptor.id ≡ true = (same_identifier-decides s.descriptor.id s.descriptor.id).1 refl in rw same refl
found_there (x ∷ xs) s none =
    let parts = absent_parts x xs s.descriptor.id none in
    by_order (found_there xs s parts.1) parts.0 (identifier_cmp s.descriptor.id x.descriptor.id)
  where
    by_order : is_some (segment_named s.descriptor.id (with_held s xs)) ≡ true → same_identifier s.descriptor.id x.descriptor.id ≡ false → (o : Ordering)
        → is_some (segment_named s.descriptor.id (match_ordering o (s ∷ x ∷ xs) (s ∷ xs) (x ∷ with_held s xs))) ≡ true
    by_order rest other Less = let same : same_identifier s.descriptor.id s.descriptor.id ≡ true = (same_identifier-decides s.descriptor.id s.descriptor.id).1 refl in rw same refl
    by_order rest other Equal = let same : same_identifier s.descriptor.id s.descriptor.id ≡ true = (same_identifier-decides s.descriptor.id s.descriptor.id).1 refl in rw same refl
    by_order rest other Greater = rw other rest

-- what is found has the identifier, and what holds of each holds of it
pub found_id : (xs : List Segment) (id : Identifier) (s : Segment) → segment_named id xs ≡ Some s → id ≡ s.descriptor.id
found_id [] id s e = absurd (cc)
found_id (x ∷ xs) id s e =
    elim (cases_Bool (same_identifier id x.descriptor.id)) [
      | inl here ↦
          let found : Some x ≡ Some s = sym (ap (λ b. cond b (Some x) (segment_named id xs)) here) ∙ e in
          same_identifier-true id x.descriptor.id here ∙ ap (λ (z : Segment). z.descriptor.id) (same_Some x s found)
      | inr apart ↦ found_id xs id s (sym (ap (λ b. cond b (Some x) (segment_named id xs)) apart) ∙ e)
    ]

pub found_each : (P : Segment → Type 0) (xs : List Segment) (id : Identifier) (s : Segment) → All P xs → segment_named id xs ≡ Some s → P s
found_each P [] id s all e = absurd (cc)
found_each P (x ∷ xs) id s all e =
    elim (cases_Bool (same_identifier id x.descriptor.id)) [
      | inl here ↦
          let found : Some x ≡ Some s = sym (ap (λ b. cond b (Some x) (segment_named id xs)) here) ∙ e in
          subst P (same_Some x s found) (All-head P x xs all)
      | inr apart ↦ found_each P xs id s (All-tail P x xs all) (sym (ap (λ b. cond b (Some x) (segment_named id xs)) apart) ∙ e)
    ]

-- ---- in the steps of the code

pub inserted-held : (xs : List Segment) (s : Segment) → IsWhole s → IsHeld xs → is_strict (descriptors_of xs) (Load s.descriptor) ≡ true → has_room (descriptors_of xs) (Load s.descriptor) ≡ true
    → IsHeld (with_held s xs)
inserted-held xs s whole held strict room =
    let none = absent xs s.descriptor whole.described held.each strict in
    record {
      set = subst IsSegmentSet (sym (with_held-descriptors xs s whole.described held.each none)) (after-set (descriptors_of xs) (Load s.descriptor) held.set strict room);
      each = All-with_held IsWhole s xs whole held.each;
    }

pub some_is : (o : Option Segment) → is_some o ≡ true → (s : Segment) × (o ≡ Some s)
some_is None e = absurd (false≢true e)
some_is (Some s) e = (s, refl)

pub removed-held : (xs : List Segment) (id : Identifier) → IsHeld xs → is_some (segment_named id xs) ≡ true → IsHeld (without_held id xs)
removed-held xs id held there =
    let found = some_is (segment_named id xs) there in
    let whole : IsWhole found.0 = found_each IsWhole xs id found.0 held.each found.1 in
    let strict = held-strict xs id found.0 found.1 in
    let made = without_held-descriptors xs id found.0 held whole.described (found_id xs id found.0 found.1) found.1 in
    record {
      set = subst IsSegmentSet (sym made) (after-set (descriptors_of xs) (Drop found.0.descriptor) held.set strict refl);
      each = All-without_held IsWhole id xs held.each;
    }
