use Rattle.std.proofs.lemmas.Result.{err_from_is_err_and}
use Rattle.druid_inventory.proofs.PlanLemmas.{memory_is_reported}
use Rattle.druid_inventory.proofs.inventory.Inventory.step_of.Goals as goal

pub returns-in_err-inventory-clause-reported : goal.returns-in_err-inventory-clause-reported
returns-in_err-inventory-clause-reported c =
    let p = err_from_is_err_and c.from_residual.result c.from_residual.ensures.1 in
    rw (p.1, p.2) (memory_is_reported c.args.self.now c.args.node c.args.body.now c.in-Ok.plan c.in-Ok.ensures.ok)

pub returns-in_err-carry_out-clause-reported : goal.returns-in_err-carry_out-clause-reported
returns-in_err-carry_out-clause-reported c =
    let p = err_from_is_err_and c.from_residual-in_err-carry_out.result c.from_residual-in_err-carry_out.ensures.1 in
    rw (p.1, p.2) (memory_is_reported c.args.self.now c.args.node c.args.body.now c.in-Ok.plan c.in-Ok.ensures.ok)
