use Rattle.std.proofs.Common.{◌≡◌, sym, ◌∙◌}
use Rattle.std.specs.Arc.{arc_value}
use Rattle.std.specs.Cmp.Derive.Mapped.{pointwise-map}
use Rattle.druid_inventory.specs.Equality.{same_entry, same_entries}
use Rattle.druid_inventory.proofs.JoinLemmas.{same_entries-decides}
use Rattle.druid_inventory.proofs.inventory.InventoryPartialEq.eq.Goals as goal

pub returns-clause-value : goal.returns-clause-value
returns-clause-value c =
    c.eq.ensures ∙ sym (pointwise-map arc_value same_entry c.entries.result.now c.entries-2.result.now)
    ∙ (λ i. same_entries (c.entries.ensures.value i) (c.entries-2.ensures.value i))

pub returns-clause-same : goal.returns-clause-same
returns-clause-same c =
    let value : c.eq.result ≡ same_entries c.args.self.now c.args.other.now =
    c.eq.ensures ∙ sym (pointwise-map arc_value same_entry c.entries.result.now c.entries-2.result.now)
    ∙ (λ i. same_entries (c.entries.ensures.value i) (c.entries-2.ensures.value i)) in
    let same = same_entries-decides c.args.self.now c.args.other.now in
    (λ t. same.0 (sym value ∙ t), λ e. value ∙ same.1 e)
