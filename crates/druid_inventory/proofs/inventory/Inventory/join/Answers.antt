use Rattle.std.proofs.lemmas.Result.{IfOk-weaker}
use Rattle.druid_inventory.proofs.JoinLemmas.{join_refused}
use Rattle.druid_inventory.specs.declared.fault.JoinFault.TheVariants as faults
use Rattle.druid_inventory.proofs.inventory.Inventory.join.Goals as goal

pub returns-clause-conflict : goal.returns-clause-conflict
returns-clause-conflict c node =
    join_refused c.judged_join.result c.args.self.now c.args.other.now
    (IfOk-weaker c.judged_join.result _ _ (λ inventory h. (inventory, h)) c.judged_join.ensures.ok) c.judged_join.ensures.reported (faults.Conflict node) (λ e. cc)
