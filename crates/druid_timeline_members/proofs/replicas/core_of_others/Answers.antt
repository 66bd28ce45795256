use Rattle.std.proofs.Common.{◌∙◌, ◌+◌, max, sym, ap, subst}
use Rattle.druid_timeline_members.specs.Slots.{Statement}
use Rattle.druid_timeline_members.proofs.CompleteLemmas.{IsCoreOfOthers, others-none, others-next, others-passed, others-most, others-some}
use Rattle.druid_timeline_members.proofs.replicas.core_of_others.Goals as goal
use Rattle.druid_timeline_members.proofs.replicas.core_of_others.Goals.{then-nodes-i, else-nodes-i}

pub loop-i-init : goal.loop-i-init
loop-i-init c = others-none c.args.nodes.now c.args.stated.now c.args.node

pub loop-i-preserved : goal.loop-i-preserved
loop-i-preserved c = elim c.if-nodes-i.branch [
  | then-nodes-i w ↦
      others-next c.args.nodes.now c.args.stated.now c.args.node c.loop-i.i c.loop-i.core w.index-stated-i.result c.if-nodes-i.core c.requires c.loop-i-test.true w.index-stated-i.is w.if-nodes-i.true
      (w.core-is ∙ w.max-core.ensures ∙ ap (λ (s : Statement). max c.loop-i.core s.core) w.own.view_is) c.loop-i.invariant
  | else-nodes-i w ↦
      subst (IsCoreOfOthers c.args.nodes.now c.args.stated.now c.args.node (c.loop-i.i + 1)) (sym w.core-is)
      (others-passed c.args.nodes.now c.args.stated.now c.args.node c.loop-i.i c.loop-i.core w.if-nodes-i.false c.loop-i.invariant)
]

pub returns-clause-most : goal.returns-clause-most
returns-clause-most c =
    others-most c.args.nodes.now c.args.stated.now c.args.node c.loop-i.i c.loop-i.core c.requires c.loop-i-test.false c.loop-i.invariant

pub returns-clause-some : goal.returns-clause-some
returns-clause-some c =
    others-some c.args.nodes.now c.args.stated.now c.args.node c.loop-i.i c.loop-i.core c.requires c.loop-i.invariant
