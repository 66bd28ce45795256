use Rattle.std.proofs.Common.{ap, ◌∙◌, ◌+◌, ◌++◌, ◌∷◌, []}
use Rattle.druid_laws_world.proofs.SimLemmas.{names-more}
use Rattle.druid_laws_world.proofs.sim.node_names.Goals as goal

pub loop-node-preserved : goal.loop-node-preserved
loop-node-preserved c = record {
  items = c.in_ok-push.ensures.items ∙ (λ i. c.loop-node.invariant.items i ++ c.in_ok-node_name.ensures.ok i ∷ []) ∙ names-more c.loop-node.node;
  len = c.in_ok-push.ensures.len ∙ ap (λ n. n + 1) c.loop-node.invariant.len;
}
