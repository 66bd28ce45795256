-- What is held of an identifier after changes of a set.
use Rattle.std.proofs.Common.{◌≡◌, ◌+◌, ◌-◌, ◌<◌, ◌≤◌, ◌↔◌, ◌++◌, ℕ, suc, Bor, Bool, true, false, not, List, [], ◌∷◌, length, get_or, take, drop, Option, Some, None, refl, sym, ap, ◌∙◌, subst, inl, inr, arith, IsTrue, lt-ltb}
use Rattle.std.specs.Bool.{nat_lt}
use Rattle.std.specs.List.{Contains}
use Rattle.std.specs.Option.{is_some, option_and_then, option_copied}
use Rattle.std.proofs.Math.Seq.{drop-cons}
use Rattle.std.proofs.lemmas.Bool.{false≢true, cases_order}
use Rattle.std.proofs.lemmas.Cmp.{nat_list_cmp_total, tied_itself}
use Rattle.std.proofs.lemmas.List.{get_or_default, get_or-drop, take-append-drop, take_more, length-drop}
use Rattle.std.proofs.lemmas.List.Edits.{length-remove}
use Rattle.std.proofs.lemmas.Option.{same_Some}
use Rattle.druid_base.proofs.OptionLemmas.{chained}
use Rattle.druid_segment_id.specs.Identifier.{Identifier, identifier_text}
use Rattle.druid_segment_descriptor.specs.Described.{Described}
use Rattle.druid_segment_descriptor.specs.Reply.{AreSorted, max_segments}
use Rattle.druid_segment_descriptor.specs.Replay.{IsSegmentSet, IsChangedBy, StandsAt, BelongsAt, is_strict, has_room, after, changed, replay_from, without_segment}
use Rattle.druid_segment_descriptor.specs.declared.change.Change.{Change}
use Rattle.druid_segment_descriptor.specs.declared.change.Change.TheVariants.{Load, Drop}
use Rattle.druid_segment_descriptor.proofs.PlaceLemmas.{Precedes}
use Rattle.druid_segment_descriptor.proofs.ReplayLemmas.{in_order, after-set, changed-is, changed-one, changed-made, replay_from-append, replay_from-front, replay_from-set, strict_load, strict_drop, length-with_segment, without_segment-at}
use Rattle.druid_segment_descriptor.proofs.SortedLemmas.{AreSorted-own}
use Rattle.druid_inventory.specs.Judged.{segment_of, IsHolderOf, NoneOfFrom}

-- ---- members of one identifier

-- in a set, one identifier is one segment's
pub one_holder : (s : List Described) → AreSorted s → (x y : Described) → Contains s x → Contains s y → identifier_text x.id ≡ identifier_text y.id → x ≡ y
one_holder s h x y (i, li, ei) (j, lj, ej) same =
    let text : Described → List ℕ = λ z. identifier_text z.id in
    let first : get_or s i x ≡ x = ei in
    let second : get_or s j x ≡ y = get_or_default s j x y lj ∙ ej in
    let level : i ≡ j = AreSorted-own s h i j x li lj (ap text first ∙ same ∙ sym (ap text second)) in
    sym first ∙ ap (λ (n : ℕ). get_or s n x) level ∙ second

precedes_itself : (a : List ℕ) → Precedes a a → ⊥
precedes_itself a before = let tied = tied_itself nat_list_cmp_total a in absurd (cc)

pub belongs_absent : (s : List Described) (id : Identifier) (i : ℕ) → BelongsAt s id i → (x : Described) → Contains s x → identifier_text x.id ≡ identifier_text id → ⊥
belongs_absent s id i at x (k, l, e) same = elim (cases_order k i) [
  | inl level ↦ precedes_itself (identifier_text id) (beyond (at.above k x (omega arith) l))
  | inr (inl before) ↦ precedes_itself (identifier_text id) (front (at.below k x before))
  | inr (inr after) ↦ precedes_itself (identifier_text id) (beyond (at.above k x (omega arith) l))
] where
  text_here : identifier_text (get_or s k x).id ≡ identifier_text id
  text_here = ap (λ (z : Described). identifier_text z.id) e ∙ same

  beyond : Precedes (identifier_text id) (identifier_text (get_or s k x).id) → Precedes (identifier_text id) (identifier_text id)
  beyond h = subst (Precedes (identifier_text id)) text_here h

  front : Precedes (identifier_text (get_or s k x).id) (identifier_text id) → Precedes (identifier_text id) (identifier_text id)
  front h = subst (λ (t : List ℕ). Precedes t (identifier_text id)) text_here h

-- a change of another identifier leaves those of this one
left_by : (s t : List Described) (c : Change) (id : Identifier) → IsChangedBy s t c → (identifier_text (segment_of c).id ≡ identifier_text id → ⊥)
    → (x : Described) → identifier_text x.id ≡ identifier_text id → Contains t x ↔ Contains s x
left_by s t (Load d) id h other x same = (
  λ there. elim ((h.members x).0 there) [
    | inl e ↦ absurd (other (ap (λ (z : Described). identifier_text z.id) (sym e) ∙ same))
    | inr before ↦ before
  ],
  λ there. (h.members x).1 (inr there),
)
left_by s t (Drop d) id h other x same = (
  λ there. ((h.members x).0 there).1,
  λ there. (h.members x).1 (λ e. other (ap (λ (z : Described). identifier_text z.id) (sym e) ∙ same), there),
)

rest_none : (c : Change) (cs : List Change) (id : Identifier) → NoneOfFrom (c ∷ cs) id 0 → NoneOfFrom cs id 0
rest_none c cs id none k d m l = none (suc k) d (omega arith) (omega arith)

-- changes of other identifiers leave those of this one
pub untouched : (s t : List Described) (cs : List Change) (id : Identifier) → IsSegmentSet s → replay_from s cs ≡ Some t → NoneOfFrom cs id 0
    → (x : Described) → identifier_text x.id ≡ identifier_text id → Contains t x ↔ Contains s x
untouched s t [] id h e none x same =
    subst (λ (u : List Described). Contains u x ↔ Contains s x) (same_Some s t e) (λ there. there, λ there. there)
untouched s t (c ∷ cs) id h e none x same =
    let step = chained (λ u. replay_from u cs) (changed s c) t e in
    let one = changed-one s step.0 c h step.1 in
    let rest = untouched step.0 t cs id one.0 step.2 (rest_none c cs id none) x same in
    let first = left_by s step.0 c id one.1 (none 0 c (omega arith) (omega arith)) x same in
    (λ there. first.0 (rest.0 there), λ there. rest.1 (first.1 there))

-- ---- the last change of an identifier

-- a change among others, and what comes before it and after it
pub record Replayed (s t : List Described) (cs : List Change) (j : ℕ) (c : Change) : Type 0 where
  pub before : List Described
  pub beyond : List Described
  pub before_set : IsSegmentSet before
  pub beyond_set : IsSegmentSet beyond
  pub change : IsChangedBy before beyond c
  pub rest : replay_from beyond (drop (suc j) cs) ≡ Some t

split_at : (cs : List Change) (j : ℕ) (c : Change) → j < length cs → c ≡ get_or cs j c → take j cs ++ (c ∷ drop (suc j) cs) ≡ cs
split_at cs j c l e =
    ap (λ (x : Change). take j cs ++ (x ∷ drop (suc j) cs)) e ∙ ap (λ (ds : List Change). take j cs ++ ds) (sym (drop-cons cs j c l)) ∙ take-append-drop j cs

pub replayed : (s t : List Described) (cs : List Change) (j : ℕ) (c : Change) → IsSegmentSet s → replay_from s cs ≡ Some t
    → j < length cs → c ≡ get_or cs j c → Replayed s t cs j c
replayed s t cs j c h e l here =
    let whole : replay_from s (take j cs ++ (c ∷ drop (suc j) cs)) ≡ Some t = ap (replay_from s) (split_at cs j c l here) ∙ e in
    let parts = replay_from-front s t (take j cs) (c ∷ drop (suc j) cs) whole in
    let step = chained (λ u. replay_from u (drop (suc j) cs)) (changed parts.0 c) t parts.2 in
    let set = replay_from-set s parts.0 (take j cs) h parts.1 in
    let one = changed-one parts.0 step.0 c set step.1 in
    record { before = parts.0; beyond = step.0; before_set = set; beyond_set = one.0; change = one.1; rest = step.2 }

drop_none : (cs : List Change) (id : Identifier) (n : ℕ) → NoneOfFrom cs id n → NoneOfFrom (drop n cs) id 0
drop_none cs id n none k c m l =
    let len = length-drop n cs in
    let at : get_or (drop n cs) k c ≡ get_or cs (n + k) c = get_or-drop n cs k c in
    λ same. none (n + k) c (omega arith) (omega arith) (sym (ap (λ (x : Change). identifier_text (segment_of x).id) at) ∙ same)

-- the last change of the identifier loads it
pub holder-loaded : (s t : List Described) (cs : List Change) (id : Identifier) (j : ℕ) (c : Change) (d : Described) → IsSegmentSet s → replay_from s cs ≡ Some t
    → j < length cs → c ≡ get_or cs j c → c ≡ Load d → NoneOfFrom cs id (suc j) → identifier_text d.id ≡ identifier_text id → IsHolderOf t id (Some d)
holder-loaded s t cs id j c d h e l here is none same =
    let r = replayed s t cs j (Load d) h e l (sym is ∙ here ∙ get_or_default cs j c (Load d) l) in
    let there : Contains r.beyond d = (r.change.members d).1 (inl refl) in
    ((untouched r.beyond t (drop (suc j) cs) id r.beyond_set r.rest (drop_none cs id (suc j) none) d same).1 there, same)

-- the last change of the identifier drops it
pub holder-dropped : (s t : List Described) (cs : List Change) (id : Identifier) (j : ℕ) (c : Change) (d : Described) → IsSegmentSet s → replay_from s cs ≡ Some t
    → j < length cs → c ≡ get_or cs j c → c ≡ Drop d → NoneOfFrom cs id (suc j) → identifier_text d.id ≡ identifier_text id → IsHolderOf t id None
holder-dropped s t cs id j c d h e l here is none same x there text =
    let r = replayed s t cs j (Drop d) h e l (sym is ∙ here ∙ get_or_default cs j c (Drop d) l) in
    let left = (r.change.members x).0 ((untouched r.beyond t (drop (suc j) cs) id r.beyond_set r.rest (drop_none cs id (suc j) none) x text).0 there) in
    left.0 (one_holder r.before r.before_set.sorted x d left.1 r.change.held (text ∙ sym same))

-- no change is of the identifier, which the set has
pub holder-stands : (s t : List Described) (cs : List Change) (id : Identifier) (i : ℕ) (d : Described) → IsSegmentSet s → replay_from s cs ≡ Some t
    → NoneOfFrom cs id 0 → StandsAt s id i → d ≡ get_or s i d → IsHolderOf t id (Some d)
holder-stands s t cs id i d h e none at is =
    let same : identifier_text d.id ≡ identifier_text id = ap (λ (x : Described). identifier_text x.id) is ∙ ap identifier_text (at.here d) in
    ((untouched s t cs id h e none d same).1 (i, at.within, sym is), same)

-- no change is of the identifier, which the set has not
pub holder-absent : (s t : List Described) (cs : List Change) (id : Identifier) (i : ℕ) → IsSegmentSet s → replay_from s cs ≡ Some t
    → NoneOfFrom cs id 0 → BelongsAt s id i → IsHolderOf t id None
holder-absent s t cs id i h e none at x there same =
    belongs_absent s id i at x ((untouched s t cs id h e none x same).0 there) same

-- ---- which changes are strict

false_of : (b : Bool) → (IsTrue b → ⊥) → b ≡ false
false_of true h = absurd (h refl)
false_of false h = refl

-- a load is strict where nothing is held of the identifier
pub strict_load_none : (t : List Described) (d : Described) → IsHolderOf t d.id None → is_strict t (Load d) ≡ true
strict_load_none t d none = (strict_load t d).1 none

pub strict_load_some : (t : List Described) (d h : Described) → IsHolderOf t d.id (Some h) → is_strict t (Load d) ≡ false
strict_load_some t d h held = false_of (is_strict t (Load d)) (λ e. (strict_load t d).0 e h held.0 held.1)

-- a drop is strict where the segment held of the identifier is equal
pub strict_drop_none : (t : List Described) (d : Described) → IsHolderOf t d.id None → is_strict t (Drop d) ≡ false
strict_drop_none t d none = false_of (is_strict t (Drop d)) (λ e. none d ((strict_drop t d).0 e) refl)

pub strict_drop_some : (t : List Described) (d h : Described) (b : Bool) → AreSorted t → IsHolderOf t d.id (Some h) → IsTrue b ↔ (h ≡ d) → b ≡ is_strict t (Drop d)
strict_drop_some t d h true sorted held same = sym ((strict_drop t d).1 (subst (Contains t) (same.0 refl) held.0))
strict_drop_some t d h false sorted held same =
    sym (false_of (is_strict t (Drop d)) (λ e. false≢true (same.1 (one_holder t sorted h d held.0 ((strict_drop t d).0 e) held.1))))

-- ---- one change more

-- a strict drop leaves one segment less
pub length-dropped : (t : List Described) (d : Described) → AreSorted t → is_strict t (Drop d) ≡ true → length (without_segment d t) + 1 ≡ length t
length-dropped t d h strict = by_place ((strict_drop t d).0 strict) where
  by_place : Contains t d → length (without_segment d t) + 1 ≡ length t
  by_place (i, l, e) =
      let is = without_segment-at d t i (in_order t h) l (λ x. get_or_default t i x d l ∙ e) in
      ap (λ (u : List Described). length u + 1) is ∙ length-remove t i l

pub replay_from-more : (s t : List Described) (cs : List Change) (i : ℕ) (c : Change) → replay_from s (take i cs) ≡ Some t → i < length cs → c ≡ get_or cs i c
    → is_strict t c ≡ true → has_room t c ≡ true → replay_from s (take (i + 1) cs) ≡ Some (after t c)
replay_from-more s t cs i c e l is strict room =
    ap (replay_from s) (take_more cs i c l ∙ ap (λ (x : Change). take i cs ++ x ∷ []) (sym is))
    ∙ replay_from-append s (take i cs) (c ∷ [])
    ∙ ap (option_and_then (λ u. replay_from u (c ∷ []))) e
    ∙ ap (option_and_then (λ u. Some u)) (changed-made t c strict room)

-- ---- a search for the last change of an identifier

-- ---- judging one change after another

-- the first i changes can be made, and leave count segments
pub record JudgedTo (s : List Described) (cs : List Change) (i count : ℕ) : Type 0 where
  pub after : List Described
  pub made : replay_from s (take i cs) ≡ Some after
  pub length : length after ≡ count
  pub set : IsSegmentSet after

pub holder_of : (t : List Described) (i j : Identifier) (o : Option Described) → i ≡ j → IsHolderOf t i o → IsHolderOf t j o
holder_of t i j o e h = subst (λ (x : Identifier). IsHolderOf t x o) e h

pub strict_load_by : (t : List Described) (d : Described) (o : Option (Bor Described)) (b : Bool) → IsHolderOf t d.id (option_copied o)
    → is_some o ≡ not b → b ≡ is_strict t (Load d)
strict_load_by t d None true h e = sym (strict_load_none t d h)
strict_load_by t d None false h e = absurd (false≢true e)
strict_load_by t d (Some x) true h e = absurd (false≢true (sym e))
strict_load_by t d (Some x) false h e = sym (strict_load_some t d x.now h)

room_below : (m n : ℕ) → n < m → nat_lt n m ≡ true
room_below m n l = lt-ltb n m l

judged_more : (s : List Described) (cs : List Change) (i count n : ℕ) (c : Change) → (j : JudgedTo s cs i count) → i < length cs → c ≡ get_or cs i c
    → is_strict j.after c ≡ true → has_room j.after c ≡ true → length (after j.after c) ≡ n → JudgedTo s cs (i + 1) n
judged_more s cs i count n c j l is strict room long = record {
  after = after j.after c;
  made = replay_from-more s j.after cs i c j.made l is strict room;
  length = long;
  set = after-set j.after c j.set strict room;
}

pub judged_load : (s : List Described) (cs : List Change) (i count : ℕ) (c : Change) (d : Described) → (j : JudgedTo s cs i count) → i < length cs → c ≡ get_or cs i c
    → c ≡ Load d → is_strict j.after c ≡ true → count < max_segments → JudgedTo s cs (i + 1) (count + 1)
judged_load s cs i count c d j l here is strict room =
    let free : has_room j.after (Load d) ≡ true = ap (λ (n : ℕ). nat_lt n max_segments) j.length ∙ room_below max_segments count room in
    judged_more s cs i count (count + 1) c j l here strict (ap (has_room j.after) is ∙ free)
    (ap (λ (x : Change). length (after j.after x)) is ∙ length-with_segment j.after d ∙ ap (λ (n : ℕ). n + 1) j.length)

pub judged_drop : (s : List Described) (cs : List Change) (i count : ℕ) (c : Change) (d : Described) → (j : JudgedTo s cs i count) → i < length cs → c ≡ get_or cs i c
    → c ≡ Drop d → is_strict j.after c ≡ true → (1 ≤ count) × JudgedTo s cs (i + 1) (count - 1)
judged_drop s cs i count c d j l here is strict =
    let less = length-dropped j.after d j.set.sorted (sym (ap (is_strict j.after) is) ∙ strict) in
    let long = j.length in
    let one : length (without_segment d j.after) ≡ count - 1 = omega arith in
    (omega arith, judged_more s cs i count (count - 1) c j l here strict (ap (has_room j.after) is) (ap (λ (x : Change). length (after j.after x)) is ∙ one))

-- ---- changes that are known to be made

-- each change of a replayed list is strict and has room, and leaves what the next begins with
pub replayed-next : (s t u : List Described) (cs : List Change) (i : ℕ) (c : Change) → replay_from s cs ≡ Some u → replay_from s (take i cs) ≡ Some t
    → i < length cs → c ≡ get_or cs i c
    → (is_strict t c ≡ true) × (has_room t c ≡ true) × (replay_from s (take (i + 1) cs) ≡ Some (after t c))
replayed-next s t u cs i c e before l is =
    let parts = replay_from-front s u (take i cs) (c ∷ drop (suc i) cs) (ap (replay_from s) (split_at cs i c l is) ∙ e) in
    let same : parts.0 ≡ t = same_Some parts.0 t (sym parts.1 ∙ before) in
    let step = chained (λ v. replay_from v (drop (suc i) cs)) (changed parts.0 c) u parts.2 in
    let made = changed-is t step.0 c (ap (λ (x : List Described). changed x c) (sym same) ∙ step.1) in
    (made.0, made.1, replay_from-more s t cs i c before l is made.0 made.1)
