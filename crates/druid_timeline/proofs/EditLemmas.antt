-- What is added and what is removed, over sets of what is held.
use Rattle.std.proofs.Common.{◌≡◌, ◌⊎◌, ℕ, List, refl, sym, ◌∙◌, subst, inl, inr}
use Rattle.std.specs.List.{Contains}
use Rattle.std.proofs.lemmas.Bool.{cases_eq}
use Rattle.druid_segment_id.specs.Identifier.{Identifier}
use Rattle.druid_segment_id.specs.Group.{group_of}
use Rattle.druid_segment_descriptor.specs.Described.{Described}
use Rattle.druid_timeline.specs.Holding.{Held, held_of, IsHeld, IsPlaceOf, OnePerPlace, AddsHeld, RemovesHeld, SameHeld}
use Rattle.druid_timeline_chunks.proofs.ChunkLemmas.{cases_group}

-- one is of the place or not
pub IsPlaceOf-cases : (node : ℕ) (id : Identifier) (x : Held) → IsPlaceOf node id x ⊎ (IsPlaceOf node id x → ⊥)
IsPlaceOf-cases node id x = elim (cases_group x.group (group_of id)) [
  | inr other ↦ inr (λ at. other at.0)
  | inl group ↦ elim (cases_eq x.member.partition id.partition) [
    | inr other ↦ inr (λ at. other at.1)
    | inl partition ↦ elim (cases_eq x.member.node node) [
      | inr other ↦ inr (λ at. other at.2)
      | inl same ↦ inl (group, partition, same)
    ]
  ]
]

pub added_after_removed : (old mid new : List Held) (node : ℕ) (d : Described) → OnePerPlace old → Contains old (held_of node d) → RemovesHeld old mid node d.id → AddsHeld mid new (held_of node d) → SameHeld old new
added_after_removed old mid new node d one there removes adds x = (λ h. forth ((adds x).0 h), λ h. (adds x).1 (back h (IsPlaceOf-cases node d.id x))) where
  forth : (x ≡ held_of node d) ⊎ Contains mid x → Contains old x
  forth (inl same) = subst (Contains old) (sym same) there
  forth (inr kept) = ((removes x).0 kept).0

  back : Contains old x → IsPlaceOf node d.id x ⊎ (IsPlaceOf node d.id x → ⊥) → (x ≡ held_of node d) ⊎ Contains mid x
  back h (inl at) = inl (one node d.id x (held_of node d) h there at (refl, refl, refl))
  back h (inr other) = inr ((removes x).1 (h, other))

-- what the node serves of an identifier is not there where it serves none
absent : (old : List Held) (node : ℕ) (id : Identifier) (x : Held) → (IsHeld old node id → ⊥) → Contains old x → IsPlaceOf node id x → ⊥
absent old node id x none there at = none (x, there, at.0, at.1, at.2)

pub removed_after_added : (old mid new : List Held) (node : ℕ) (d : Described) → (IsHeld old node d.id → ⊥) → AddsHeld old mid (held_of node d) → RemovesHeld mid new node d.id → SameHeld old new
removed_after_added old mid new node d none adds removes x = (λ h. forth ((removes x).0 h), λ h. (removes x).1 ((adds x).1 (inr h), absent old node d.id x none h)) where
  forth : Contains mid x × (IsPlaceOf node d.id x → ⊥) → Contains old x
  forth (kept, other) = elim ((adds x).0 kept) [
    | inl same ↦ absurd (other (subst (IsPlaceOf node d.id) (sym same) (refl, refl, refl)))
    | inr h ↦ h
  ]

-- two that are at one place are at each other's
shared_place : (node : ℕ) (id : Identifier) (d : Described) (m : ℕ) (y : Held) → IsPlaceOf node id (held_of m d) → IsPlaceOf node id y → IsPlaceOf m d.id y
shared_place node id d m y h at = (at.0 ∙ sym h.0, at.1 ∙ sym h.1, at.2 ∙ sym h.2)

pub one_after_added : (old new : List Held) (node : ℕ) (d : Described) → OnePerPlace old → (IsHeld old node d.id → ⊥) → AddsHeld old new (held_of node d) → OnePerPlace new
one_after_added old new node d one none adds m id x y hx hy px py = by_cases ((adds x).0 hx) ((adds y).0 hy) where
  by_cases : (x ≡ held_of node d) ⊎ Contains old x → (y ≡ held_of node d) ⊎ Contains old y → x ≡ y
  by_cases (inl e) (inl f) = e ∙ sym f
  by_cases (inl e) (inr h) = absurd (absent old node d.id y none h (shared_place m id d node y (subst (IsPlaceOf m id) e px) py))
  by_cases (inr h) (inl f) = absurd (absent old node d.id x none h (shared_place m id d node x (subst (IsPlaceOf m id) f py) px))
  by_cases (inr h) (inr i) = one m id x y h i px py

pub one_after_removed : (old new : List Held) (node : ℕ) (id : Identifier) → OnePerPlace old → RemovesHeld old new node id → OnePerPlace new
one_after_removed old new node id one removes m other x y hx hy px py = one m other x y ((removes x).0 hx).0 ((removes y).0 hy).0 px py
