use Rattle.std.proofs.Common.{ap, sym, ◌∙◌, ◌++◌, ◌∷◌, [], List}
use Rattle.druid_segment_descriptor.specs.Mark.{Point}
use Rattle.druid_replay.proofs.MarkLemmas.{marks_more}
use Rattle.druid_replay.proofs.execution.marks_of.Goals as goal

pub loop-node-preserved : goal.loop-node-preserved
loop-node-preserved c =
    let m = c.in-Some.mark in
    c.in_ok-push.ensures.items ∙ ap (λ (ps : List Point). ps ++ m ∷ []) c.loop-node.invariant
    ∙ sym (marks_more c.args.inventory.now c.loop-node.node m (sym c.mark.ensures ∙ c.in-Some.is))
