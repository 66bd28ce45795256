use Rattle.std.proofs.Common.{refl, sym, ◌∙◌}
use Rattle.druid_inventory.proofs.JoinLemmas.{same_entries-decides}
use Rattle.druid_replay.proofs.execution.compare.Goals as goal

pub returns : goal.returns
returns c =
    let one = c.inventory.result.now in
    let other = c.inventory-2.result.now in
    let same = same_entries-decides one other in
    (one, other, c.inventory.ensures, c.inventory-2.ensures, c.eq.result, (λ t. same.0 (sym c.eq.ensures ∙ t), λ e. c.eq.ensures ∙ same.1 e), refl, refl)
