-- Sets of segments as lists by identifier, and what changes make of them.
use Rattle.std.proofs.Common.{◌≡◌, ◌+◌, ◌-◌, ◌<◌, ◌≤◌, ◌⊎◌, ◌↔◌, ◌&&◌, ◌++◌, ℕ, zero, suc, Bool, true, false, not, cond, List, [], ◌∷◌, length, get_or, Option, Some, None, refl, sym, ap, ◌∙◌, subst, inl, inr, arith, ltb-true}
use Rattle.std.specs.Bool.{IsTrue, nat_lt}
use Rattle.std.specs.Option.{option_and_then}
use Rattle.std.specs.Ordering.{nat_cmp, is_lt, ordering_reverse}
use Rattle.std.specs.declared.cmp.Ordering.{Ordering}
use Rattle.std.specs.declared.cmp.Ordering.TheVariants.{Less, Equal, Greater}
use Rattle.std.specs.Cmp.Lexicographic.{slice_cmp}
use Rattle.std.specs.List.{All, AllPairs, Contains, filter, insert, list_any, remove}
use Rattle.std.proofs.lemmas.Bool.{false≢true, not-true}
use Rattle.std.proofs.lemmas.Cmp.{nat_list_cmp_total}
use Rattle.std.proofs.lemmas.List.{get_or_default}
use Rattle.std.proofs.lemmas.List.Edits.{length-insert}
use Rattle.std.proofs.lemmas.List.Elements.{All-nil, All-cons, All-head, All-tail, All-contains, All-weaker}
use Rattle.std.proofs.lemmas.List.Folds.{Any-from_list_any, list_any-from_Any}
use Rattle.std.proofs.lemmas.List.Kept.{AllPairs-cons, AllPairs-filter}
use Rattle.std.proofs.lemmas.Option.{same_Some, none-some}
use Rattle.std.proofs.lemmas.Slice.Eq.{bytes_eq-Decides}
use Rattle.druid_base.proofs.OptionLemmas.{chained}
use Rattle.druid_base.proofs.OrderLemmas.{is_lt-Less}
use Rattle.druid_segment_id.specs.Identifier.{identifier_text}
use Rattle.druid_segment_id.proofs.OrderLemmas.{slice_cmp-Equal}
use Rattle.druid_segment_descriptor.specs.Described.{Described, same_described}
use Rattle.druid_segment_descriptor.specs.Reply.{IsBefore, AreSorted, max_segments}
use Rattle.druid_segment_descriptor.specs.Replay.{IsSegmentSet, IsChangedBy, shares_identifier, is_before, with_segment, without_segment, is_strict, has_room, after, changed, replay_from}
use Rattle.druid_segment_descriptor.specs.declared.change.Change.{Change}
use Rattle.druid_segment_descriptor.specs.declared.change.Change.TheVariants.{Load, Drop}
use Rattle.druid_segment_descriptor.proofs.DescribedLemmas.{same_described-decides}
use Rattle.druid_base.proofs.MemberLemmas.{Contains-nil, Contains-cons, Contains-later, Contains-insert}
use Rattle.druid_segment_descriptor.proofs.SortedLemmas.{AreSorted-later, not_before_itself}

-- ---- in order, as pairs

-- each before all later ones
abbrev pub AreInOrder : List Described → Type 0
AreInOrder s = AllPairs IsBefore s

pub in_order : (s : List Described) → AreSorted s → AreInOrder s
in_order s h i j d below l =
    let e : i + suc (j - suc i) ≡ j = omega arith in
    let before = AreSorted-later s h i (j - suc i) d (omega arith) in
    rw e at before

pub are_sorted : (s : List Described) → AreInOrder s → AreSorted s
are_sorted s h k d l = h k (k + 1) d (omega arith) l

pub first_before : (x : Described) (s : List Described) → AreInOrder (x ∷ s) → All (IsBefore x) s
first_before x s h k d l = h 0 (suc k) d (omega arith) (omega arith)

pub rest_in_order : (x : Described) (s : List Described) → AreInOrder (x ∷ s) → AreInOrder s
rest_in_order x s h i j d below l = h (suc i) (suc j) d (omega arith) (omega arith)

pub before_trans : (a b c : Described) → IsBefore a b → IsBefore b c → IsBefore a c
before_trans a b c ab bc = nat_list_cmp_total.trans (identifier_text a.id) (identifier_text b.id) (identifier_text c.id) ab bc

abbrev pub HasOtherIdentifier : Described → Described → Type 0
HasOtherIdentifier d x = identifier_text x.id ≡ identifier_text d.id → ⊥

pub is_before-true : (a b : Described) → is_before a b ≡ true → IsBefore a b
is_before-true a b e = is_lt-Less (slice_cmp nat_cmp (identifier_text a.id) (identifier_text b.id)) e

after_unless : (a b : Described) (o : Ordering) → o ≡ slice_cmp nat_cmp (identifier_text a.id) (identifier_text b.id) → is_lt o ≡ false → HasOtherIdentifier a b → IsBefore b a
after_unless a b Less e h other = absurd (false≢true (sym h))
after_unless a b Equal e h other = absurd (other (sym (slice_cmp-Equal (identifier_text a.id) (identifier_text b.id) (sym e))))
after_unless a b Greater e h other =
    nat_list_cmp_total.antisymm (identifier_text b.id) (identifier_text a.id) ∙ ap ordering_reverse (sym e)

pub is_before-false : (a b : Described) → is_before a b ≡ false → HasOtherIdentifier a b → IsBefore b a
is_before-false a b e other = after_unless a b (slice_cmp nat_cmp (identifier_text a.id) (identifier_text b.id)) refl e other

-- ---- one segment more

-- the place of a segment
pub place_in : List Described → Described → ℕ
place_in [] d = 0
place_in (x ∷ xs) d = cond (is_before d x) 0 (suc (place_in xs d))

pub place_in-within : (s : List Described) (d : Described) → place_in s d ≤ length s
unfolding place_in
place_in-within [] d = omega arith
place_in-within (x ∷ xs) d = by_test (place_in-within xs d) (is_before d x) where
  by_test : place_in xs d ≤ length xs → (b : Bool) → cond b 0 (suc (place_in xs d)) ≤ length (x ∷ xs)
  by_test l true = omega arith
  by_test l false = omega arith

pub with_segment-insert : (s : List Described) (d : Described) → with_segment d s ≡ insert s (place_in s d) d
unfolding place_in
with_segment-insert [] d = refl
with_segment-insert (x ∷ xs) d = by_test (with_segment-insert xs d) (is_before d x) where
  by_test : with_segment d xs ≡ insert xs (place_in xs d) d → (b : Bool) → cond b (d ∷ x ∷ xs) (x ∷ with_segment d xs) ≡ insert (x ∷ xs) (cond b 0 (suc (place_in xs d))) d
  by_test e true = refl
  by_test e false = ap (λ ys. x ∷ ys) e

pub length-with_segment : (s : List Described) (d : Described) → length (with_segment d s) ≡ length s + 1
length-with_segment s d = ap length (with_segment-insert s d) ∙ length-insert s (place_in s d) d (place_in-within s d)

pub Contains-with_segment : (s : List Described) (d x : Described) → Contains (with_segment d s) x ↔ ((x ≡ d) ⊎ Contains s x)
Contains-with_segment s d x =
    subst (λ (t : List Described). Contains t x ↔ ((x ≡ d) ⊎ Contains s x)) (sym (with_segment-insert s d)) (Contains-insert s (place_in s d) d x)

All-with_segment : (P : Described → Type 0) (d : Described) (s : List Described) → P d → All P s → All P (with_segment d s)
All-with_segment P d [] here all = All-cons P d [] here all
All-with_segment P d (x ∷ xs) here all = by_test (All-with_segment P d xs here (All-tail P x xs all)) (is_before d x) where
  by_test : All P (with_segment d xs) → (b : Bool) → All P (cond b (d ∷ x ∷ xs) (x ∷ with_segment d xs))
  by_test rest true = All-cons P d (x ∷ xs) here all
  by_test rest false = All-cons P x (with_segment d xs) (All-head P x xs all) rest

pub with_segment-in_order : (d : Described) (s : List Described) → AreInOrder s → All (HasOtherIdentifier d) s → AreInOrder (with_segment d s)
with_segment-in_order d [] h other = AllPairs-cons IsBefore d [] (All-nil (IsBefore d)) h
with_segment-in_order d (x ∷ xs) h other =
    by_test (with_segment-in_order d xs (rest_in_order x xs h) (All-tail (HasOtherIdentifier d) x xs other)) (is_before d x) refl where
      by_test : AreInOrder (with_segment d xs) → (b : Bool) → is_before d x ≡ b → AreInOrder (cond b (d ∷ x ∷ xs) (x ∷ with_segment d xs))
      by_test rest true e =
          let first = is_before-true d x e in
          let later = All-weaker (IsBefore x) (IsBefore d) (λ y next. before_trans d x y first next) xs (first_before x xs h) in
          AllPairs-cons IsBefore d (x ∷ xs) (All-cons (IsBefore d) x xs first later) h
      by_test rest false e =
          let first = is_before-false d x e (All-head (HasOtherIdentifier d) x xs other) in
          AllPairs-cons IsBefore x (with_segment d xs) (All-with_segment (IsBefore x) d xs first (first_before x xs h)) rest

-- a segment is at its place where those before it come before it, and those from there on do not
pub with_segment-at : (d : Described) (s : List Described) (i : ℕ) → i ≤ length s
    → ((k : ℕ) → k < i → (x : Described) → is_before d (get_or s k x) ≡ false)
    → (i < length s → (x : Described) → is_before d (get_or s i x) ≡ true) → with_segment d s ≡ insert s i d
with_segment-at d [] zero l below above = refl
with_segment-at d [] (suc i) l below above = absurd (omega arith)
with_segment-at d (x ∷ xs) zero l below above = rw (above (omega arith) x) refl
with_segment-at d (x ∷ xs) (suc i) l below above =
    rw (below 0 (omega arith) x)
    (ap (λ ys. x ∷ ys) (with_segment-at d xs i (omega arith) (λ k m y. below (suc k) (omega arith) y) (λ m y. above (omega arith) y)))

-- ---- one segment less

Contains-passed : (p : Described → Bool) (s : List Described) (x : Described) → Contains (filter p s) x → Contains s x × (p x ≡ true)
Contains-passed p [] x there = absurd (Contains-nil x there)
Contains-passed p (y ∷ ys) x there = by_test (Contains-passed p ys x) (p y) refl there where
  by_test : (Contains (filter p ys) x → Contains ys x × (p x ≡ true)) → (b : Bool) → p y ≡ b
      → Contains (cond b (y ∷ filter p ys) (filter p ys)) x → Contains (y ∷ ys) x × (p x ≡ true)
  by_test rest true e c = elim (Contains-cons y (filter p ys) x c) [
    | inl here ↦ ((0, omega arith, here), ap p (sym here) ∙ e)
    | inr later ↦ let found = rest later in (Contains-later y ys x found.0, found.1)
  ]
  by_test rest false e c = let found = rest c in (Contains-later y ys x found.0, found.1)

Contains-passes : (p : Described → Bool) (s : List Described) (x : Described) → Contains s x → p x ≡ true → Contains (filter p s) x
Contains-passes p [] x there e = absurd (Contains-nil x there)
Contains-passes p (y ∷ ys) x there e = by_test (λ later. Contains-passes p ys x later e) (p y) refl where
  by_test : (Contains ys x → Contains (filter p ys) x) → (b : Bool) → p y ≡ b → Contains (cond b (y ∷ filter p ys) (filter p ys)) x
  by_test rest true f = elim (Contains-cons y ys x there) [
    | inl here ↦ (0, omega arith, here)
    | inr later ↦ Contains-later y (filter p ys) x (rest later)
  ]
  by_test rest false f = elim (Contains-cons y ys x there) [
    | inl here ↦ absurd (false≢true (sym f ∙ ap p here ∙ e))
    | inr later ↦ rest later
  ]

length-passed : (p : Described → Bool) (s : List Described) → length (filter p s) ≤ length s
length-passed p [] = omega arith
length-passed p (y ∷ ys) = by_test (length-passed p ys) (p y) where
  by_test : length (filter p ys) ≤ length ys → (b : Bool) → length (cond b (y ∷ filter p ys) (filter p ys)) ≤ length (y ∷ ys)
  by_test l true = omega arith
  by_test l false = omega arith

all_pass : (p : Described → Bool) (s : List Described) → All (λ x. p x ≡ true) s → filter p s ≡ s
all_pass p [] h = refl
all_pass p (y ∷ ys) h =
    rw (All-head (λ x. p x ≡ true) y ys h) (ap (λ zs. y ∷ zs) (all_pass p ys (All-tail (λ x. p x ≡ true) y ys h)))

is_not : (b : Bool) → (b ≡ true → ⊥) → not b ≡ true
is_not true h = absurd (h refl)
is_not false h = refl

-- another descriptor passes
pub other_passes : (x d : Described) → (x ≡ d → ⊥) → not (same_described x d) ≡ true
other_passes x d apart = is_not (same_described x d) (λ e. apart ((same_described-decides x d).0 e))

before_apart : (x d : Described) → IsBefore x d → x ≡ d → ⊥
before_apart x d before e = not_before_itself x d before (ap (λ (y : Described). identifier_text y.id) e)

pub Contains-without_segment : (s : List Described) (d x : Described) → Contains (without_segment d s) x ↔ ((x ≡ d → ⊥) × Contains s x)
Contains-without_segment s d x = (
  λ there.
      let found = Contains-passed (λ y. not (same_described y d)) s x there in
      (λ e. false≢true (sym (not-true (same_described x d) found.1) ∙ (same_described-decides x d).1 e), found.0),
  λ h. Contains-passes (λ y. not (same_described y d)) s x h.1 (other_passes x d h.0),
)

pub length-without_segment : (s : List Described) (d : Described) → length (without_segment d s) ≤ length s
length-without_segment s d = length-passed (λ x. not (same_described x d)) s

-- a segment is taken out at its place
pub without_segment-at : (d : Described) (s : List Described) (i : ℕ) → AreInOrder s → i < length s → ((x : Described) → get_or s i x ≡ d)
    → without_segment d s ≡ remove s i
without_segment-at d [] i h l here = absurd (omega arith)
without_segment-at d (x ∷ xs) zero h l here =
    let same : same_described x d ≡ true = (same_described-decides x d).1 (here x) in
    let later : All (IsBefore d) xs = subst (λ (y : Described). All (IsBefore y) xs) (here x) (first_before x xs h) in
    rw same (all_pass (λ y. not (same_described y d)) xs
    (All-weaker (IsBefore d) (λ y. not (same_described y d) ≡ true) (λ y before. other_passes y d (λ e. before_apart d y before (sym e))) xs later))
without_segment-at d (x ∷ xs) (suc i) h l here =
    let before : IsBefore x d = subst (IsBefore x) (here x) (first_before x xs h i x (omega arith)) in
    rw (other_passes x d (before_apart x d before))
    (ap (λ ys. x ∷ ys) (without_segment-at d xs i (rest_in_order x xs h) (omega arith) here))

-- ---- which changes are strict

strict_from : (b : Bool) (P : Type 0) → (b ≡ true → P) → (P → b ≡ true) → IsTrue (not b) ↔ (P → ⊥)
strict_from true P to from = (λ e p. false≢true e, λ h. absurd (h (to refl)))
strict_from false P to from = (λ e p. false≢true (from p), λ h. refl)

abbrev HasIdentifierOf : List Described → Described → Type 0
HasIdentifierOf s d = (x : Described) × Contains s x × (identifier_text x.id ≡ identifier_text d.id)

shared_from : (s : List Described) (d : Described) → list_any (λ x. shares_identifier x d) s ≡ true → HasIdentifierOf s d
shared_from s d e =
    let found = Any-from_list_any (λ x. shares_identifier x d) s e in
    (found.1, (found.0, found.2, found.3), (bytes_eq-Decides (identifier_text found.1.id) (identifier_text d.id)).0 found.4)

shared_to : (s : List Described) (d : Described) → HasIdentifierOf s d → list_any (λ x. shares_identifier x d) s ≡ true
shared_to s d h =
    list_any-from_Any (λ x. shares_identifier x d) s
    (h.1.0, h.0, h.1.1, h.1.2, (bytes_eq-Decides (identifier_text h.0.id) (identifier_text d.id)).1 h.2)

-- a load is strict exactly where no segment of its identifier is held
pub strict_load : (s : List Described) (d : Described)
    → IsTrue (is_strict s (Load d)) ↔ ((x : Described) → Contains s x → identifier_text x.id ≡ identifier_text d.id → ⊥)
strict_load s d =
    let h = strict_from (list_any (λ x. shares_identifier x d) s) (HasIdentifierOf s d) (shared_from s d) (shared_to s d) in
    (λ e x there same. h.0 e (x, there, same), λ none. h.1 (λ one. none one.0 one.1 one.2))

-- a drop is strict exactly where an equal descriptor is held
pub strict_drop : (s : List Described) (d : Described) → IsTrue (is_strict s (Drop d)) ↔ Contains s d
strict_drop s d = (
  λ e.
      let found = Any-from_list_any (λ x. same_described x d) s e in
      subst (Contains s) ((same_described-decides found.1 d).0 found.4) (found.0, found.2, found.3),
  λ there. list_any-from_Any (λ x. same_described x d) s (there.0, d, there.1, there.2, (same_described-decides d d).1 refl),
)

-- ---- one change

made : (a b : Bool) (s t : List Described) → cond (a && b) (Some s) None ≡ Some t → (a ≡ true) × (b ≡ true) × (t ≡ s)
made true true s t e = (refl, refl, sym (same_Some s t e))
made true false s t e = absurd (none-some t e)
made false b s t e = absurd (none-some t e)

pub changed-is : (s t : List Described) (c : Change) → changed s c ≡ Some t → (is_strict s c ≡ true) × (has_room s c ≡ true) × (t ≡ after s c)
unfolding changed
changed-is s t c e = made (is_strict s c) (has_room s c) (after s c) t e

pub changed-made : (s : List Described) (c : Change) → is_strict s c ≡ true → has_room s c ≡ true → changed s c ≡ Some (after s c)
unfolding changed
changed-made s c strict room = rw (strict, room) refl

pub changed-not_strict : (s : List Described) (c : Change) → is_strict s c ≡ false → changed s c ≡ None
unfolding changed
changed-not_strict s c loose = rw loose refl

both_off : (a b : Bool) (s : List Described) → b ≡ false → cond (a && b) (Some s) None ≡ None
both_off true false s e = refl
both_off false false s e = refl
both_off a true s e = absurd (false≢true (sym e))

pub changed-no_room : (s : List Described) (c : Change) → has_room s c ≡ false → changed s c ≡ None
unfolding changed
changed-no_room s c full = both_off (is_strict s c) (has_room s c) (after s c) full

below_more : (n m : ℕ) → nat_lt n m ≡ true → n + 1 ≤ m
below_more n m e = let l = ltb-true n m e in omega arith

sorted_after : (s : List Described) (c : Change) → AreInOrder s → is_strict s c ≡ true → AreInOrder (after s c)
sorted_after s (Load d) h strict =
    with_segment-in_order d s h (λ k x l. (strict_load s d).0 strict (get_or s k x) (k, l, get_or_default s k (get_or s k x) x l))
sorted_after s (Drop d) h strict = AllPairs-filter IsBefore (λ x. not (same_described x d)) s h

few_after : (s : List Described) (c : Change) → length s ≤ max_segments → has_room s c ≡ true → length (after s c) ≤ max_segments
few_after s (Load d) few room =
    let more = below_more (length s) max_segments room in
    subst (λ (n : ℕ). n ≤ max_segments) (sym (length-with_segment s d)) more
few_after s (Drop d) few room = let less = length-without_segment s d in omega arith

pub after-set : (s : List Described) (c : Change) → IsSegmentSet s → is_strict s c ≡ true → has_room s c ≡ true → IsSegmentSet (after s c)
after-set s c h strict room = record {
  few = few_after s c h.few room;
  sorted = are_sorted (after s c) (sorted_after s c (in_order s h.sorted) strict);
}

by_change : (s : List Described) (c : Change) → is_strict s c ≡ true → IsChangedBy s (after s c) c
by_change s (Load d) strict = record { absent = (strict_load s d).0 strict; members = Contains-with_segment s d }
by_change s (Drop d) strict = record { held = (strict_drop s d).0 strict; members = Contains-without_segment s d }

-- what a change makes of a set
pub changed-one : (s t : List Described) (c : Change) → IsSegmentSet s → changed s c ≡ Some t → IsSegmentSet t × IsChangedBy s t c
changed-one s t c h e =
    let is = changed-is s t c e in
    (subst IsSegmentSet (sym is.2) (after-set s c h is.0 is.1), subst (λ (u : List Described). IsChangedBy s u c) (sym is.2) (by_change s c is.0))

-- ---- many changes

pub replay_from-append : (s : List Described) (a b : List Change) → replay_from s (a ++ b) ≡ option_and_then (λ t. replay_from t b) (replay_from s a)
replay_from-append s [] b = refl
replay_from-append s (c ∷ a) b = by_first (λ t. replay_from-append t a b) (changed s c) where
  by_first : ((t : List Described) → replay_from t (a ++ b) ≡ option_and_then (λ u. replay_from u b) (replay_from t a))
      → (o : Option (List Described)) → option_and_then (λ t. replay_from t (a ++ b)) o ≡ option_and_then (λ t. replay_from t b) (option_and_then (λ t. replay_from t a) o)
  by_first rest None = refl
  by_first rest (Some t) = rest t

pub replay_from-front : (s u : List Described) (a b : List Change) → replay_from s (a ++ b) ≡ Some u
    → (t : List Described) × (replay_from s a ≡ Some t) × (replay_from t b ≡ Some u)
replay_from-front s u a b e = chained (λ t. replay_from t b) (replay_from s a) u (sym (replay_from-append s a b) ∙ e)

pub replay_from-set : (s t : List Described) (cs : List Change) → IsSegmentSet s → replay_from s cs ≡ Some t → IsSegmentSet t
replay_from-set s t [] h e = subst IsSegmentSet (same_Some s t e) h
replay_from-set s t (c ∷ cs) h e =
    let step = chained (λ u. replay_from u cs) (changed s c) t e in
    replay_from-set step.0 t cs (changed-one s step.0 c h step.1).0 step.2

-- ---- a set has one list

abbrev SameMembers : List Described → List Described → Type 0
SameMembers s t = (x : Described) → Contains s x ↔ Contains t x

earlier : (x y : Described) (s t : List Described) → AreInOrder (y ∷ t) → SameMembers (x ∷ s) (y ∷ t) → (x ≡ y) ⊎ IsBefore y x
earlier x y s t h same = elim (Contains-cons y t x ((same x).0 (0, omega arith, refl))) [
  | inl here ↦ inl (sym here)
  | inr later ↦ inr (All-contains (IsBefore y) t x (first_before y t h) later)
]

mirrored : (s t : List Described) → SameMembers s t → SameMembers t s
mirrored s t same x = ((same x).1, (same x).0)

rest_same : (x : Described) (s t : List Described) → AreInOrder (x ∷ s) → SameMembers (x ∷ s) (x ∷ t) → (z : Described) → Contains s z → Contains t z
rest_same x s t h same z there = elim (Contains-cons x t z ((same z).0 (Contains-later x s z there))) [
  | inl here ↦ absurd (before_apart x z (All-contains (IsBefore x) s z (first_before x s h) there) here)
  | inr later ↦ later
]

pub one_list : (s t : List Described) → AreInOrder s → AreInOrder t → SameMembers s t → s ≡ t
one_list [] [] h k same = refl
one_list [] (y ∷ t) h k same = absurd (Contains-nil y ((same y).1 (0, omega arith, refl)))
one_list (x ∷ s) [] h k same = absurd (Contains-nil x ((same x).0 (0, omega arith, refl)))
one_list (x ∷ s) (y ∷ t) h k same =
    let e : x ≡ y = level (earlier x y s t k same) (earlier y x t s h (mirrored (x ∷ s) (y ∷ t) same)) in
    let k' : AreInOrder (x ∷ t) = subst (λ (z : Described). AreInOrder (z ∷ t)) (sym e) k in
    let same' : SameMembers (x ∷ s) (x ∷ t) = subst (λ (z : Described). SameMembers (x ∷ s) (z ∷ t)) (sym e) same in
    let rest = one_list s t (rest_in_order x s h) (rest_in_order x t k')
    (λ z. (rest_same x s t h same' z, rest_same x t s k' (mirrored (x ∷ s) (x ∷ t) same') z)) in
    λ i. e i ∷ rest i where
      level : (x ≡ y) ⊎ IsBefore y x → (y ≡ x) ⊎ IsBefore x y → x ≡ y
      level (inl e) b = e
      level (inr a) (inl e) = sym e
      level (inr a) (inr b) = absurd (not_before_itself x x (before_trans x y x b a) refl)

pub sorted-one_list : (s t : List Described) → AreSorted s → AreSorted t → SameMembers s t → s ≡ t
sorted-one_list s t h k same = one_list s t (in_order s h) (in_order t k) same
