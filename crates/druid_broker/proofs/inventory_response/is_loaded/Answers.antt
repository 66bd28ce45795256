use Rattle.std.proofs.Common.{sym, ◌∙◌, arith}
use Rattle.druid_broker.proofs.LoadLemmas.{loaded_more}
use Rattle.druid_broker.proofs.inventory_response.is_loaded.Goals as goal

pub loop-node-preserved : goal.loop-node-preserved
loop-node-preserved c =
    sym (loaded_more c.args.inventory.now c.loop-node.node c.in-Some.mark c.in-Some.ensures (omega (arith, c.if-incarnation-lt1.false, c.incarnation.ensures))) ∙ c.loop-node.invariant
