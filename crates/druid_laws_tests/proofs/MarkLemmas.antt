-- What the first replies of two nodes make of an inventory in which no node was synced.
use Rattle.std.proofs.Common.{◌≡◌, ℕ, ◌≤◌, Bool, true, cond, List, [], ◌∷◌, ap, ◌∙◌}
use Rattle.std.specs.Prelude.{slice_set}
use Rattle.std.specs.declared.cmp.Ordering.{Ordering}
use Rattle.std.specs.Ordering.{is_lt, nat_cmp, ordering_then}
use Rattle.druid_base.proofs.OrderLemmas.{nat_cmp-lt}
use Rattle.druid_segment_descriptor.specs.Described.{Described}
use Rattle.druid_segment_descriptor.specs.Mark.{Point, never, mark_cmp}
use Rattle.druid_segment_descriptor.specs.declared.reply.Body.TheVariants.{Snapshot}
use Rattle.druid_inventory.specs.Entry.{Entry, fresh}
use Rattle.druid_inventory.specs.Step.{moved_to}
use Rattle.druid_node.specs.State.{State}
use Rattle.druid_inventory_views.specs.Fold.{stepped, fold_of}
use Rattle.druid_laws_world.specs.World.{marks_of}
use Rattle.druid_laws_tests.specs.Nodes.{mark_of}
use Rattle.druid_laws_tests.proofs.NodeLemmas.{snapshot_of}

-- the mark of an incarnation is later than none
after_never : (i : ℕ) (n : ℕ) → 1 ≤ i → is_lt (mark_cmp never (record { incarnation = i; count = n })) ≡ true
after_never i n some = ap (λ (o : Ordering). is_lt (ordering_then o (nat_cmp 0 n))) (nat_cmp-lt 0 i some)

moves : (name : List ℕ) (m : Point) (set : List Described) → 1 ≤ m.incarnation → stepped (fresh name) (Snapshot m set) ≡ moved_to (fresh name) m set
moves name m set some = ap (λ (b : Bool). cond b (moved_to (fresh name) m set) (fresh name)) (after_never m.incarnation m.count some)

pub two_marks : (x y : List ℕ) (left right : State) → 1 ≤ left.history.incarnation → 1 ≤ right.history.incarnation
    → marks_of (fold_of (fresh x ∷ fresh y ∷ []) ((0, snapshot_of left) ∷ (1, snapshot_of right) ∷ [])) ≡ mark_of left ∷ mark_of right ∷ []
two_marks x y left right some_left some_right =
    ap (λ (e : Entry). marks_of (fold_of (slice_set (fresh x ∷ fresh y ∷ []) 0 e) ((1, snapshot_of right) ∷ []))) (moves x (mark_of left) left.history.set some_left)
    ∙ ap (λ (e : Entry). marks_of (slice_set (moved_to (fresh x) (mark_of left) left.history.set ∷ fresh y ∷ []) 1 e)) (moves y (mark_of right) right.history.set some_right)
