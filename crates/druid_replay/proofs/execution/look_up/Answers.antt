use Rattle.std.proofs.Common.{rules, inr, ℕ, List, subst}
use Rattle.druid_inventory.specs.Sources.{IsHoldingOf}
use Rattle.druid_replay.proofs.execution.look_up.Goals as goal

pub returns-clause-ok : goal.returns-clause-ok
returns-clause-ok c =
    let holding = subst (λ (s : List ℕ). IsHoldingOf c.args.inventory.now s c.in-Some.timeline.now.held) c.in-Ok-new.ensures.value c.in-Some.ensures.held in
    (c.in-Ok.asked, search rules, search rules, inr (search rules, c.in-Some.timeline.now.held, holding, search rules))
