use Rattle.druid_segment_descriptor.specs.declared.change.Ask.TheVariants.{Whole}
use Rattle.druid_laws_tests.proofs.LawLemmas.{exact_answer}
use Rattle.druid_laws_tests.proofs.laws.answers_are_exact.Goals as goal

pub returns : goal.returns
returns c =
    let back = c.asks_are_read_back.ensures.whole in
    exact_answer (λ state status body reply responds reported. c.asks_are_answered.ensures.answer state state Whole status body reply back responds reported)
    (λ life state status body reply valid last responds reported. c.asks_are_answered.ensures.honest life state state Whole status body reply valid last back responds reported)
    (λ state query asked node status body segments holds is may responds among. c.nodes_are_honest.ensures state state query asked node status body segments holds is may responds among)
    c.queries_are_exact.ensures
