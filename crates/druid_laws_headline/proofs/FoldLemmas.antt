-- What honest replies make of an inventory that is true in a world.
use Rattle.std.proofs.Common.{◌≡◌, ℕ, List, [], ◌∷◌, length, map, Option, Some, None, refl, sym, ap, ◌∙◌, subst, inl, inr}
use Rattle.std.specs.Prelude.{slice_get, slice_set}
use Rattle.druid_base.proofs.ListLemmas.{set-found}
use Rattle.druid_segment_descriptor.specs.declared.reply.Body.{Body}
use Rattle.druid_inventory.specs.Entry.{Entry, fresh}
use Rattle.druid_inventory.specs.declared.fault.Outcome.TheVariants.{Moved}
use Rattle.druid_inventory_views.specs.Fold.{Published, stepped, stepped_if, step_by, fold_of}
use Rattle.druid_inventory_views.proofs.FoldLemmas.{stepping, fold_names}
use Rattle.druid_laws_world.specs.World.{Life, IsWorld, IsInventoryOf, IsHonestAt, marks_of}
use Rattle.druid_laws_world.specs.Run.{AreHonest}
use Rattle.druid_laws_world.proofs.RunLemmas.{applies_true, fresh_true, determined}

step_true : (world : List Life) (inventory : List Entry) (pair : ℕ × Body) → IsWorld world → IsInventoryOf world inventory → IsHonestAt world pair.0 pair.1
    → IsInventoryOf world (step_by inventory pair)
step_true world inventory pair valid is honest = by (slice_get inventory pair.0) refl
  where
    by : (o : Option Entry) → slice_get inventory pair.0 ≡ o → IsInventoryOf world (stepped_if inventory pair o)
    by None at = is
    by (Some e) at = elim (stepping e pair.1) [
      | inl moves ↦ (applies_true world inventory _ pair.0 pair.1 valid is honest (inl (Moved, stepped e pair.1, (e, at, moves), refl))).0
      | inr same ↦ subst (IsInventoryOf world) (sym (ap (λ (x : Entry). stepped_to x) same ∙ set-found inventory pair.0 e at)) is
    ] where
      stepped_to : Entry → List Entry
      stepped_to x = slice_set inventory pair.0 x

fold_true : (world : List Life) (inventory : List Entry) (published : Published) → IsWorld world → IsInventoryOf world inventory → AreHonest world published
    → IsInventoryOf world (fold_of inventory published)
fold_true world inventory [] valid is honest = is
fold_true world inventory (pair ∷ published) valid is honest =
    fold_true world (step_by inventory pair) published valid (step_true world inventory pair valid is honest.0) honest.1

pub of_world : (world : List Life) (names : List (List ℕ)) (published : Published) → IsWorld world → length names ≡ length world → AreHonest world published
    → IsInventoryOf world (fold_of (map fresh names) published)
of_world world names published valid long honest = fold_true world (map fresh names) published valid (fresh_true world names long) honest

pub equal : (world : List Life) (names : List (List ℕ)) (a b : Published) → IsWorld world → length names ≡ length world → AreHonest world a → AreHonest world b
    → marks_of (fold_of (map fresh names) a) ≡ marks_of (fold_of (map fresh names) b)
    → fold_of (map fresh names) a ≡ fold_of (map fresh names) b
equal world names a b valid long first second marks =
    determined world (fold_of (map fresh names) a) (fold_of (map fresh names) b) (of_world world names a valid long first) (of_world world names b valid long second)
    (fold_names (map fresh names) a ∙ sym (fold_names (map fresh names) b)) marks
