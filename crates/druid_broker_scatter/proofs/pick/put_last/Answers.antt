-- Each node that is well goes after those before it that are; one that ails stays where it stands.
use Rattle.std.proofs.Common.{◌<◌, ◌∙◌, length, sym, arith}
use Rattle.druid_broker_scatter.proofs.AilingLemmas.{well_more, ailing_more}
use Rattle.druid_broker_scatter.proofs.pick.put_last.Goals as goal
use Rattle.druid_broker_scatter.proofs.pick.put_last.Goals.{then-not-has_node, else-not-has_node}

pub loop-place-preserved : goal.loop-place-preserved
loop-place-preserved c =
    let i : c.loop-place.place < length c.args.nodes.now = omega arith in
    elim c.if-not-has_node.branch [
      | then-not-has_node w ↦
          let t = sym c.has_node.ensures ∙ w.if-not-has_node.true in
          let m = well_more c.args.ailing c.args.nodes.now c.loop-place.nodes w.move_forward.new.nodes c.loop-place.well c.loop-place.place i c.loop-place.invariant.ordered c.loop-place.invariant.count t w.move_forward.ensures in
          record { ordered = w.nodes-is ∙ m.0; count = w.well-is ∙ m.1 }
      | else-not-has_node w ↦
          let t = sym c.has_node.ensures ∙ w.if-not-has_node.false in
          let m = ailing_more c.args.ailing c.args.nodes.now c.loop-place.nodes c.loop-place.well c.loop-place.place i c.loop-place.invariant.ordered c.loop-place.invariant.count t in
          record { ordered = w.nodes-is ∙ m.0; count = w.well-is ∙ m.1 }
    ]
