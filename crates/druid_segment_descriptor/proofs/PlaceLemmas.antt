-- Where a segment stands in a set.
use Rattle.std.proofs.Common.{◌≡◌, ◌+◌, ◌<◌, ◌≤◌, ℕ, List, length, get_or, refl, sym, ap, ◌∙◌, subst, inl, inr, arith, IsTrue}
use Rattle.std.specs.Ordering.{nat_cmp, is_eq, is_lt, ordering_reverse}
use Rattle.std.specs.declared.cmp.Ordering.{Ordering}
use Rattle.std.specs.declared.cmp.Ordering.TheVariants.{Less, Equal, Greater}
use Rattle.std.specs.Cmp.Lexicographic.{slice_cmp}
use Rattle.std.specs.List.{Contains, insert, remove}
use Rattle.std.proofs.lemmas.Bool.{cases_order}
use Rattle.std.proofs.lemmas.Cmp.{nat_list_cmp_total, tied_itself}
use Rattle.std.proofs.lemmas.List.{get_or_default}
use Rattle.druid_segment_id.specs.Identifier.{Identifier, identifier_text, identifier_cmp}
use Rattle.druid_segment_id.specs.IdentifierLaws.{identifier_cmp-ties, same_identifier-true}
use Rattle.druid_segment_descriptor.specs.Described.{Described}
use Rattle.druid_segment_descriptor.specs.Reply.{AreSorted}
use Rattle.druid_segment_descriptor.specs.Replay.{StandsAt, BelongsAt, is_strict, with_segment, without_segment}
use Rattle.druid_segment_descriptor.specs.declared.change.Change.TheVariants.{Load, Drop}
use Rattle.druid_segment_descriptor.proofs.ReplayLemmas.{in_order, strict_load, strict_drop, with_segment-at, without_segment-at}
use Rattle.druid_segment_descriptor.proofs.SortedLemmas.{AreSorted-own}

-- one text comes before another
abbrev pub Precedes : List ℕ → List ℕ → Type 0
Precedes a b = slice_cmp nat_cmp a b ≡ Less

precedes_itself : (a : List ℕ) → Precedes a a → ⊥
precedes_itself a before = let tied = tied_itself nat_list_cmp_total a in absurd (cc)

-- ---- a search

-- those below low come before the identifier
abbrev pub AllBefore : List Described → Identifier → ℕ → Type 0
AllBefore s id low = (k : ℕ) (x : Described) → k < low → Precedes (identifier_text (get_or s k x).id) (identifier_text id)

-- those from high on come after it
abbrev pub AllBeyond : List Described → Identifier → ℕ → Type 0
AllBeyond s id high = (k : ℕ) (x : Described) → high ≤ k → k < length s → Precedes (identifier_text id) (identifier_text (get_or s k x).id)

-- what is left to be searched
pub record IsLeft (s : List Described) (id : Identifier) (low high : ℕ) : Type 0 where
  pub apart : low ≤ high
  pub within : high ≤ length s
  pub below : AllBefore s id low
  pub above : AllBeyond s id high

pub IsLeft-above : (s : List Described) (id : Identifier) (low high m : ℕ) (y : Described) → AreSorted s → IsLeft s id low high → m < high → low ≤ m
    → y ≡ get_or s m y → Less ≡ slice_cmp nat_cmp (identifier_text y.id) (identifier_text id) → IsLeft s id (m + 1) high
IsLeft-above s id low high m y h left under over is less = record {
  apart = omega arith;
  within = left.within;
  below = λ k x l.
      let within = left.within in
      let long : m < length s = omega arith in
      let same : y ≡ get_or s m x = is ∙ get_or_default s m y x long in
      let at : Precedes (identifier_text (get_or s m x).id) (identifier_text id) =
      subst (λ (z : Described). Precedes (identifier_text z.id) (identifier_text id)) same (sym less) in
      elim (cases_order k m) [
        | inl level ↦ subst (λ (n : ℕ). Precedes (identifier_text (get_or s n x).id) (identifier_text id)) (sym level) at
        | inr (inl before) ↦
            nat_list_cmp_total.trans (identifier_text (get_or s k x).id) (identifier_text (get_or s m x).id) (identifier_text id)
            (in_order s h k m x before long) at
        | inr (inr beyond) ↦ absurd (omega arith)
      ];
  above = left.above;
}

pub IsLeft-below : (s : List Described) (id : Identifier) (low high m : ℕ) (y : Described) → AreSorted s → IsLeft s id low high → m < high → low ≤ m
    → y ≡ get_or s m y → Greater ≡ slice_cmp nat_cmp (identifier_text y.id) (identifier_text id) → IsLeft s id low m
IsLeft-below s id low high m y h left under over is greater = record {
  apart = over;
  within = let within = left.within in omega arith;
  below = left.below;
  above = λ k x n l.
      let within = left.within in
      let long : m < length s = omega arith in
      let same : y ≡ get_or s m x = is ∙ get_or_default s m y x long in
      let at : Precedes (identifier_text id) (identifier_text (get_or s m x).id) =
      subst (λ (z : Described). Precedes (identifier_text id) (identifier_text z.id)) same (beyond y greater) in
      elim (cases_order k m) [
        | inl level ↦ subst (λ (n : ℕ). Precedes (identifier_text id) (identifier_text (get_or s n x).id)) (sym level) at
        | inr (inl before) ↦ absurd (omega arith)
        | inr (inr after) ↦
            nat_list_cmp_total.trans (identifier_text id) (identifier_text (get_or s m x).id) (identifier_text (get_or s k x).id)
            at (in_order s h m k x after l)
      ];
} where
  beyond : (z : Described) → Greater ≡ slice_cmp nat_cmp (identifier_text z.id) (identifier_text id) → Precedes (identifier_text id) (identifier_text z.id)
  beyond z e = nat_list_cmp_total.antisymm (identifier_text id) (identifier_text z.id) ∙ ap ordering_reverse (sym e)

-- it is found
pub StandsAt-found : (s : List Described) (id : Identifier) (m : ℕ) (y : Described) → m < length s → y ≡ get_or s m y → Equal ≡ identifier_cmp y.id id → StandsAt s id m
StandsAt-found s id m y l is tied = record {
  within = l;
  here = λ x.
      ap (λ (z : Described). z.id) (sym (is ∙ get_or_default s m y x l))
      ∙ same_identifier-true y.id id (identifier_cmp-ties y.id id ∙ ap is_eq (sym tied));
}

-- ---- what was found, and strict changes

pub stands_not_strict : (s : List Described) (d : Described) (i : ℕ) → IsTrue (is_strict s (Load d)) → StandsAt s d.id i → ⊥
stands_not_strict s d i strict at =
    (strict_load s d).0 strict (get_or s i d) (i, at.within, get_or_default s i (get_or s i d) d at.within) (ap identifier_text (at.here d))

pub belongs_not_held : (s : List Described) (d : Described) (i : ℕ) → IsTrue (is_strict s (Drop d)) → BelongsAt s d.id i → ⊥
belongs_not_held s d i strict at = by_side ((strict_drop s d).0 strict) where
  by_side : Contains s d → ⊥
  by_side (k, l, e) = elim (cases_order k i) [
    | inl level ↦ precedes_itself (identifier_text d.id) (subst (λ (x : Described). Precedes (identifier_text d.id) (identifier_text x.id)) e (at.above k d (omega arith) l))
    | inr (inl before) ↦ precedes_itself (identifier_text d.id) (subst (λ (x : Described). Precedes (identifier_text x.id) (identifier_text d.id)) e (at.below k d before))
    | inr (inr beyond) ↦ precedes_itself (identifier_text d.id) (subst (λ (x : Described). Precedes (identifier_text d.id) (identifier_text x.id)) e (at.above k d (omega arith) l))
  ]

not_before : (a b : List ℕ) → Precedes a b → (o : Ordering) → slice_cmp nat_cmp b a ≡ o → o ≡ Greater
not_before a b before o e = sym e ∙ nat_list_cmp_total.antisymm b a ∙ ap ordering_reverse before

-- a segment is put where it belongs
pub inserted : (s : List Described) (d : Described) (i : ℕ) → BelongsAt s d.id i → insert s i d ≡ with_segment d s
inserted s d i at =
    sym (with_segment-at d s i at.within
    (λ k l x. ap is_lt (not_before (identifier_text (get_or s k x).id) (identifier_text d.id) (at.below k x l) _ refl))
    (λ l x. ap is_lt (at.above i x (omega arith) l)))

-- a segment is taken from where it stands
pub removed : (s : List Described) (d : Described) (i : ℕ) → AreSorted s → IsTrue (is_strict s (Drop d)) → StandsAt s d.id i → remove s i ≡ without_segment d s
removed s d i h strict at = by_place ((strict_drop s d).0 strict) where
  by_place : Contains s d → remove s i ≡ without_segment d s
  by_place (k, l, e) =
      let level : i ≡ k =
      AreSorted-own s h i k d at.within l (ap identifier_text (at.here d) ∙ sym (ap (λ (x : Described). identifier_text x.id) e)) in
      sym (without_segment-at d s i (in_order s h) at.within
      (λ x. get_or_default s i x d at.within ∙ ap (λ (n : ℕ). get_or s n d) level ∙ e))
