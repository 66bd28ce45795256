use Rattle.std.proofs.Common.{rules, refl}
use Rattle.druid_replay.proofs.NameLemmas.{one_more, all_of}
use Rattle.druid_replay.proofs.execution.are_names.Goals as goal

pub loop-node-preserved : goal.loop-node-preserved
loop-node-preserved c =
    one_more c.args.nodes.now c.loop-node.node-index c.node-item.result c.text_of.result.now c.loop-node-test.true c.node-item.is c.text_of.ensures (c.accepts.ensures.names.0 (search rules)) c.loop-node.invariant

pub returns : goal.returns
returns c = (λ _. all_of c.args.nodes.now c.loop-node.node-index c.loop-node-test.false c.loop-node.invariant, λ _. refl)
