use Rattle.std.proofs.Common.{rules}
use Rattle.druid_node.proofs.AnswerLemmas.{read_result}
use Rattle.druid_node.proofs.answer.answer_of.Goals as goal

pub returns : goal.returns
returns c =
    let counted =
    read_result c.args.held.now c.query.result.now c.asked.result.now c.in_ok-slices.slices.items c.deref.result.now c.in_ok-partial.partial.groups
    c.in_ok-slices.ensures c.deref.ensures.value c.in_ok-partial.ensures.result in
    search (counted, rules)
