use Rattle.std.proofs.Common.{map, ◌∙◌}
use Rattle.std.specs.Arc.{arc_value}
use Rattle.std.proofs.lemmas.Result.{IfOk-weaker}
use Rattle.druid_base.proofs.ListLemmas.{map-copied}
use Rattle.druid_inventory.proofs.EntryLemmas.{ok_case}
use Rattle.druid_inventory.proofs.inventory.Inventory.copied_entries.Goals as goal

-- the copied pointers point to the same
pub returns-clause-entries : goal.returns-clause-entries
returns-clause-entries c =
    IfOk-weaker c.clone.result _ _
    (λ entries h. map-copied arc_value c.deref.result.now.items entries.items h.0 ∙ (λ i. map arc_value (c.deref.ensures i).items) ∙ c.self.view_is)
    (ok_case c.clone.result _ _ c.clone.ensures.cases)
