use Rattle.std.proofs.Common.{map, ◌∙◌}
use Rattle.std.specs.Arc.{arc_value}
use Rattle.druid_inventory.proofs.TimelineLemmas.{IsInventory-same}
use Rattle.druid_inventory.proofs.inventory.Inventory.share.Goals as goal

-- the pointers point to the same
pub invariant_of-result : goal.invariant_of-result
invariant_of-result c =
    IsInventory-same (map arc_value (arc_value c.self.inside.entries).items) (map arc_value (arc_value c.in_ok-try_clone.field-0).items)
    (arc_value c.self.inside.timelines) (arc_value c.in_ok-try_clone-2.field-0)
    (λ i. map arc_value (c.in_ok-try_clone.ensures i).items) c.in_ok-try_clone-2.ensures c.self.invariant

pub returns : goal.returns
returns c = (λ i. map arc_value (c.in_ok-try_clone.ensures i).items) ∙ c.self.view_is
