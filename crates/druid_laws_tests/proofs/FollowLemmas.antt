-- What two turns publish, each with a node that was never synced.
use Rattle.std.proofs.Common.{◌≡◌, ℕ, List, [], ◌∷◌, length, map, refl, ap, subst, arith}
use Rattle.druid_inventory.specs.Entry.{fresh}
use Rattle.druid_inventory.specs.declared.fault.Outcome.{Outcome}
use Rattle.druid_node.specs.State.{State}
use Rattle.druid_inventory_views.specs.Fold.{Published, PublisherValue}
use Rattle.druid_broker_follow.specs.Turns.{IsFetchedFrom, TakesTurn}
use Rattle.druid_laws_tests.specs.Exchanges.{ExchangesWithNode}
use Rattle.druid_laws_tests.specs.FollowedNodes.{AreFollowed}
use Rattle.druid_laws_tests.specs.Nodes.{IsNode}
use Rattle.druid_laws_tests.proofs.TurnLemmas.{IsReadBack, fetched_first}

abbrev pub Turns : PublisherValue → ℕ → State → State → Outcome → PublisherValue → Type 0
Turns old node link after outcome new = TakesTurn (IsFetchedFrom ExchangesWithNode old.inventory node link after) old node outcome new

pub record BothFollowed (left right left_after right_after : State) (new : PublisherValue) : Type 0 where
  pub same_left : left_after ≡ left
  pub same_right : right_after ≡ right
  pub followed : AreFollowed left right new.published

of_two : (x y : List ℕ) (shown : Published) (mid new : PublisherValue) (left right left_after right_after : State) (o p : Outcome)
    → IsReadBack → IsNode left → IsNode right → Turns (record { published = []; inventory = fresh x ∷ fresh y ∷ []; shown = shown }) 0 left left_after o mid → Turns mid 1 right right_after p new
    → BothFollowed left right left_after right_after new
of_two x y shown mid new left right left_after right_after o p back is_left is_right first second =
    let a = fetched_first back (fresh x ∷ fresh y ∷ []) 0 (fresh x) left left_after first.0 is_left refl refl first.1 in
    let before : mid ≡ record { published = (0, first.0) ∷ []; inventory = first.2.0 ∷ fresh y ∷ []; shown = mid.shown } =
    λ i. record { published = first.2.2 i; inventory = first.2.3 i; shown = mid.shown } in
    let again = subst (λ (m : PublisherValue). Turns m 1 right right_after p new) before second in
    let b = fetched_first back (first.2.0 ∷ fresh y ∷ []) 1 (fresh y) right right_after again.0 is_right refl refl again.1 in
    record {
      same_left = a.0;
      same_right = b.0;
      followed = record {
        first = first.0;
        second = again.0;
        are = again.2.2;
        of_left = a.1;
        of_right = b.1;
      };
    }

pub both_followed : (names : List (List ℕ)) (old mid new : PublisherValue) (left right left_after right_after : State) (o p : Outcome)
    → IsReadBack → IsNode left → IsNode right → length names ≡ 2 → old.published ≡ [] → old.inventory ≡ map fresh names
    → Turns old 0 left left_after o mid → Turns mid 1 right right_after p new → BothFollowed left right left_after right_after new
both_followed [] old mid new left right left_after right_after o p back is_left is_right two none opening first second = absurd (omega (arith, two))
both_followed (x ∷ []) old mid new left right left_after right_after o p back is_left is_right two none opening first second = absurd (omega (arith, two))
both_followed (x ∷ y ∷ z ∷ names) old mid new left right left_after right_after o p back is_left is_right two none opening first second = absurd (omega (arith, two))
both_followed (x ∷ y ∷ []) old mid new left right left_after right_after o p back is_left is_right two none opening first second =
    let is : old ≡ record { published = []; inventory = fresh x ∷ fresh y ∷ []; shown = old.shown } =
    λ i. record { published = none i; inventory = opening i; shown = old.shown } in
    of_two x y old.shown mid new left right left_after right_after o p back is_left is_right (subst (λ (v : PublisherValue). Turns v 0 left left_after o mid) is first) second
