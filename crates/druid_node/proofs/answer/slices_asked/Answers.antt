use Rattle.std.proofs.lemmas.Result.{IfOk-weaker}
use Rattle.druid_node.proofs.AnswerLemmas.{slices_result}
use Rattle.druid_node.proofs.answer.slices_asked.Goals as goal

pub returns : goal.returns
returns c =
    let held = c.args.held.now in
    IfOk-weaker c.slices_of.result _ _
    (λ slices reported query groups result. slices_result held query c.args.asked.now c.in_ok-placed.placed.items c.deref.result.now slices.items groups c.in_ok-placed.ensures.counted c.deref.ensures.value reported result)
    c.slices_of.ensures
