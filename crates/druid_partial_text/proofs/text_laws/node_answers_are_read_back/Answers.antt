use Rattle.druid_partial_text.proofs.ReadBackLemmas.{answer_back}
use Rattle.druid_partial_text.proofs.text_laws.node_answers_are_read_back.Goals as goal

pub returns : goal.returns
returns c = answer_back
