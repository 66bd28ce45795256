-- Where a segment stands among those that are held.
use Rattle.std.proofs.Common.{◌≡◌, ◌<◌, ◌≤◌, ℕ, zero, suc, true, false, cond, List, [], ◌∷◌, map, length, get_or, Some, None, refl, sym, ap, ◌∙◌, subst, arith, inl, inr}
use Rattle.std.specs.List.{insert, remove, slice_get}
use Rattle.std.specs.Option.{is_some}
use Rattle.std.specs.Ordering.{match_ordering, ordering_then, ordering_reverse, is_eq}
use Rattle.std.specs.declared.cmp.Ordering.TheVariants.{Less, Greater}
use Rattle.std.proofs.lemmas.Bool.{cases_Bool, false≢true}
use Rattle.std.proofs.lemmas.Cmp.{nat_list_cmp_total}
use Rattle.std.proofs.lemmas.List.{get_or-map, length-map}
use Rattle.std.proofs.lemmas.Option.{get_or_from_slice_get, slice_get_within}
use Rattle.druid_segment_id.specs.Identifier.{Identifier, identifier_text, same_identifier, parts_cmp, identifier_cmp}
use Rattle.druid_segment_id.specs.IdentifierLaws.{identifier_cmp-ties, same_identifier-true}
use Rattle.druid_segment_id.proofs.EqualLemmas.{same_identifier-decides}
use Rattle.druid_segment_descriptor.specs.Reply.{IsBefore}
use Rattle.druid_segment_descriptor.specs.Replay.{StandsAt, BelongsAt}
use Rattle.druid_segment_descriptor.proofs.PlaceLemmas.{Precedes}
use Rattle.druid_segment_descriptor.proofs.ReplayLemmas.{AreInOrder, first_before, rest_in_order}
use Rattle.druid_segment_rows.specs.Segment.{Segment}
use Rattle.druid_partial_scan.specs.Once.{segment_named}
use Rattle.druid_node.specs.State.{descriptor_of, descriptors_of}
use Rattle.druid_node.specs.Held.{with_held, without_held}
use Rattle.druid_node.proofs.RowLemmas.{have_own}

-- ---- lists after pointers

pub map-insert : {A B : Type 0} (f : A → B) (xs : List A) (i : ℕ) (x : A) → i ≤ length xs → map f (insert xs i x) ≡ insert (map f xs) i (f x)
map-insert f xs zero x l = refl
map-insert f [] (suc i) x l = absurd (omega arith)
map-insert f (y ∷ ys) (suc i) x l = ap (λ zs. f y ∷ zs) (map-insert f ys i x (omega arith))

pub map-remove : {A B : Type 0} (f : A → B) (xs : List A) (i : ℕ) → i < length xs → map f (remove xs i) ≡ remove (map f xs) i
map-remove f [] i l = absurd (omega arith)
map-remove f (y ∷ ys) zero l = refl
map-remove f (y ∷ ys) (suc i) l = ap (λ zs. f y ∷ zs) (map-remove f ys i (omega arith))

-- ---- identifiers apart

less_is : (a b : Identifier) → Precedes (identifier_text a) (identifier_text b) → identifier_cmp a b ≡ Less
less_is a b before = ap (λ o. ordering_then o (parts_cmp a b)) before

greater_is : (a b : Identifier) → Precedes (identifier_text b) (identifier_text a) → identifier_cmp a b ≡ Greater
greater_is a b before =
    ap (λ o. ordering_then o (parts_cmp a b)) (nat_list_cmp_total.antisymm (identifier_text a) (identifier_text b) ∙ ap ordering_reverse before)

less_apart : (a b : Identifier) → Precedes (identifier_text a) (identifier_text b) → same_identifier a b ≡ false
less_apart a b before = identifier_cmp-ties a b ∙ ap is_eq (less_is a b before)

greater_apart : (a b : Identifier) → Precedes (identifier_text b) (identifier_text a) → same_identifier a b ≡ false
greater_apart a b before = identifier_cmp-ties a b ∙ ap is_eq (greater_is a b before)

-- ---- a search

-- the segment at a place, by its descriptor
pub described_at : (xs : List Segment) (i : ℕ) (s : Segment) → slice_get xs i ≡ Some s → s.descriptor ≡ get_or (descriptors_of xs) i s.descriptor
described_at xs i s e = sym (get_or-map descriptor_of xs i s s.descriptor (slice_get_within xs i s e) ∙ ap descriptor_of (get_or_from_slice_get xs i s s e))

rest_stands : (x : Segment) (xs : List Segment) (id : Identifier) (i : ℕ) → StandsAt (descriptors_of (x ∷ xs)) id (suc i) → StandsAt (descriptors_of xs) id i
rest_stands x xs id i at = record { within = let l = at.within in omega arith; here = λ d. at.here d }

rest_belongs : (x : Segment) (xs : List Segment) (id : Identifier) (i : ℕ) → BelongsAt (descriptors_of (x ∷ xs)) id (suc i) → BelongsAt (descriptors_of xs) id i
rest_belongs x xs id i at = record {
  within = let l = at.within in omega arith;
  below = λ k d l. at.below (suc k) d (omega arith);
  above = λ k d l m. at.above (suc k) d (omega arith) (omega arith);
}

first_belongs : (x : Segment) (xs : List Segment) (id : Identifier) → BelongsAt (descriptors_of (x ∷ xs)) id zero → BelongsAt (descriptors_of xs) id zero
first_belongs x xs id at = record {
  within = omega arith;
  below = λ k d l. absurd (omega arith);
  above = λ k d l m. at.above (suc k) d (omega arith) (omega arith);
}

-- the first of those in order comes before the identifier that stands after it
before_later : (x : Segment) (xs : List Segment) (id : Identifier) (i : ℕ) → AreInOrder (descriptors_of (x ∷ xs)) → StandsAt (descriptors_of (x ∷ xs)) id (suc i)
    → Precedes (identifier_text x.descriptor.id) (identifier_text id)
before_later x xs id i order at =
    let l = at.within in
    let before : IsBefore x.descriptor (get_or (descriptors_of xs) i x.descriptor) = first_before x.descriptor (descriptors_of xs) order i x.descriptor (omega arith) in
    subst (λ (k : Identifier). Precedes (identifier_text x.descriptor.id) (identifier_text k)) (at.here x.descriptor) before

-- ---- what is found

pub found_at : (xs : List Segment) (id : Identifier) (i : ℕ) (s : Segment) → AreInOrder (descriptors_of xs) → StandsAt (descriptors_of xs) id i → slice_get xs i ≡ Some s
    → Some s ≡ segment_named id xs
found_at [] id i s order at e = let l = at.within in absurd (omega arith)
found_at (x ∷ xs) id zero s order at e =
    let same : same_identifier id x.descriptor.id ≡ true = (same_identifier-decides id x.descriptor.id).1 (sym (at.here x.descriptor)) in
    sym e ∙ sym (ap (λ b. cond b (Some x) (segment_named id xs)) same)
found_at (x ∷ xs) id (suc i) s order at e =
    let apart = greater_apart id x.descriptor.id (before_later x xs id i order at) in
    found_at xs id i s (rest_in_order x.descriptor (descriptors_of xs) order) (rest_stands x xs id i at) e
    ∙ sym (ap (λ b. cond b (Some x) (segment_named id xs)) apart)

-- what stands at its place is found by name
pub named_at : (xs : List Segment) (id : Identifier) (i : ℕ) → AreInOrder (descriptors_of xs) → StandsAt (descriptors_of xs) id i
    → (i < length xs) × (slice_get xs i ≡ segment_named id xs)
named_at xs id i order at =
    let below : i < length xs = omega (arith, at.within, length-map xs descriptor_of) in
    let got = got_at xs i below in (below, got.1 ∙ found_at xs id i got.0 order at got.1)
  where
    got_at : (xs : List Segment) (i : ℕ) → i < length xs → (s : Segment) × (slice_get xs i ≡ Some s)
    got_at [] i below = absurd (omega arith)
    got_at (x ∷ xs) zero below = (x, refl)
    got_at (x ∷ xs) (suc i) below = got_at xs i (omega arith)

pub absent_at : (xs : List Segment) (id : Identifier) (i : ℕ) → BelongsAt (descriptors_of xs) id i → None ≡ segment_named id xs
absent_at [] id i at = refl
absent_at (x ∷ xs) id zero at =
    let apart = less_apart id x.descriptor.id (at.above 0 x.descriptor (omega arith) (omega arith)) in
    absent_at xs id zero (first_belongs x xs id at) ∙ sym (ap (λ b. cond b (Some x) (segment_named id xs)) apart)
absent_at (x ∷ xs) id (suc i) at =
    let apart = greater_apart id x.descriptor.id (at.below 0 x.descriptor (omega arith)) in
    absent_at xs id i (rest_belongs x xs id i at) ∙ sym (ap (λ b. cond b (Some x) (segment_named id xs)) apart)

-- what is found belongs nowhere
pub found_not_absent : (xs : List Segment) (id : Identifier) (i : ℕ) → is_some (segment_named id xs) ≡ true → BelongsAt (descriptors_of xs) id i → ⊥
found_not_absent xs id i there at = false≢true (ap is_some (absent_at xs id i at) ∙ there)

-- ---- one more, and one less

pub with_held-at : (xs : List Segment) (s : Segment) (i : ℕ) → BelongsAt (descriptors_of xs) s.descriptor.id i → insert xs i s ≡ with_held s xs
with_held-at [] s zero at = refl
with_held-at [] s (suc i) at = let l = at.within in absurd (omega arith)
with_held-at (x ∷ xs) s zero at =
    let less = less_is s.descriptor.id x.descriptor.id (at.above 0 x.descriptor (omega arith) (omega arith)) in
    sym (ap (λ o. match_ordering o (s ∷ x ∷ xs) (s ∷ xs) (x ∷ with_held s xs)) less)
with_held-at (x ∷ xs) s (suc i) at =
    let greater = greater_is s.descriptor.id x.descriptor.id (at.below 0 x.descriptor (omega arith)) in
    ap (λ ys. x ∷ ys) (with_held-at xs s i (rest_belongs x xs s.descriptor.id i at))
    ∙ sym (ap (λ o. match_ordering o (s ∷ x ∷ xs) (s ∷ xs) (x ∷ with_held s xs)) greater)

pub without_held-at : (xs : List Segment) (id : Identifier) (i : ℕ) → AreInOrder (descriptors_of xs) → StandsAt (descriptors_of xs) id i → remove xs i ≡ without_held id xs
without_held-at [] id i order at = let l = at.within in absurd (omega arith)
without_held-at (x ∷ xs) id zero order at =
    let same : same_identifier id x.descriptor.id ≡ true = (same_identifier-decides id x.descriptor.id).1 (sym (at.here x.descriptor)) in
    sym (ap (λ b. cond b xs (x ∷ without_held id xs)) same)
without_held-at (x ∷ xs) id (suc i) order at =
    let apart = greater_apart id x.descriptor.id (before_later x xs id i order at) in
    ap (λ ys. x ∷ ys) (without_held-at xs id i (rest_in_order x.descriptor (descriptors_of xs) order) (rest_stands x xs id i at))
    ∙ sym (ap (λ b. cond b xs (x ∷ without_held id xs)) apart)

-- what was taken out is not found
pub gone_from : (xs : List Segment) (id : Identifier) → AreInOrder (descriptors_of xs) → segment_named id (without_held id xs) ≡ None
gone_from [] id order = refl
gone_from (x ∷ xs) id order =
    let rest = gone_from xs id (rest_in_order x.descriptor (descriptors_of xs) order) in
    elim (cases_Bool (same_identifier id x.descriptor.id)) [
      | inl here ↦
          ap (λ b. segment_named id (cond b xs (x ∷ without_held id xs))) here
          ∙ ap (λ (k : Identifier). segment_named k xs) (same_identifier-true id x.descriptor.id here) ∙ (have_own (x ∷ xs) order).0
      | inr apart ↦
          ap (λ b. segment_named id (cond b xs (x ∷ without_held id xs))) apart
          ∙ ap (λ b. cond b (Some x) (segment_named id (without_held id xs))) apart ∙ rest
    ]

-- ---- in the steps of the code

pub put_at : {A : Type 0} (f : A → Segment) (old new : List A) (p : A) (s : Segment) (i : ℕ) → new ≡ insert old i p → f p ≡ s → BelongsAt (descriptors_of (map f old)) s.descriptor.id i
    → map f new ≡ with_held s (map f old)
put_at f old new p s i e is at =
    let long = length-map (map f old) descriptor_of in
    let wide = length-map old f in
    let l = at.within in
    ap (map f) e ∙ map-insert f old i p (omega arith) ∙ ap (λ (x : Segment). insert (map f old) i x) is ∙ with_held-at (map f old) s i at

pub taken_at : {A : Type 0} (f : A → Segment) (old new : List A) (id : Identifier) (i : ℕ) → AreInOrder (descriptors_of (map f old)) → new ≡ remove old i → StandsAt (descriptors_of (map f old)) id i
    → map f new ≡ without_held id (map f old)
taken_at f old new id i order e at =
    let long = length-map (map f old) descriptor_of in
    let wide = length-map old f in
    let l = at.within in
    ap (map f) e ∙ map-remove f old i (omega arith) ∙ without_held-at (map f old) id i order at
