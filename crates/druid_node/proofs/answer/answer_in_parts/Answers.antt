use Rattle.std.proofs.Common.{rules}
use Rattle.druid_node.proofs.AnswerLemmas.{read_result}
use Rattle.druid_node.proofs.answer.answer_in_parts.Goals as goal

pub returns : goal.returns
returns g c =
    let counted =
    read_result c.args.held.now c.query.result.now c.asked.result.now c.in_ok-slices.slices.items c.deref-2.result.now c.in_ok-partial.partial.groups
    c.in_ok-slices.ensures c.deref-2.ensures.value c.in_ok-partial.ensures.result in
    search (counted, rules)
