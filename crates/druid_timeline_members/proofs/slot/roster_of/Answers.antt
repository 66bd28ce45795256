use Rattle.std.proofs.Common.{◌≡◌, ◌↔◌, ◌⊎◌, List, [], ◌∷◌, sym, subst, inl, inr}
use Rattle.std.specs.List.{Contains}
use Rattle.druid_timeline_members.specs.Slots.{Replica}
use Rattle.druid_timeline_members.proofs.OneLemmas.{added-alone, absent-beside, absent-none}
use Rattle.druid_timeline_members.proofs.slot.roster_of.Goals as goal

-- where the others are known
others : (P A B C : Type 0) → A ↔ (P ⊎ B) → B ↔ C → A ↔ (P ⊎ C)
others P A B C f g = (λ a. forth (f.0 a), λ either. f.1 (back either)) where
  forth : P ⊎ B → P ⊎ C
  forth (inl p) = inl p
  forth (inr b) = inr (g.0 b)

  back : P ⊎ C → P ⊎ B
  back (inl p) = inl p
  back (inr c) = inr (g.1 c)

pub returns : goal.returns
returns c x =
    let empty = c.new-roster.ensures in
    let first = added-alone c.new-roster.result c.add.new.self c.args.first empty (c.in_ok-add.ensures.added (c.in_ok-add.ensures.held.1 (absent-none c.new-roster.result c.args.first.0 empty))) in
    let second = c.in_ok-add-2.ensures.added (c.in_ok-add-2.ensures.held.1 (absent-beside c.add.new.self c.args.first c.args.second.0 first c.requires)) in
    subst (λ (rs : List Replica). Contains rs x ↔ ((x ≡ c.args.second) ⊎ Contains (c.args.first ∷ []) x)) (sym c.in_ok-new.ensures.ok)
    (others _ _ _ _ (second x) (first x))
