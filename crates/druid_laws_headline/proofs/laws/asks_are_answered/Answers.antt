use Rattle.druid_laws_headline.proofs.AskLemmas.{answer_of_history, honest_answer}
use Rattle.druid_laws_headline.proofs.laws.asks_are_answered.Goals as goal

pub returns-clause-answer : goal.returns-clause-answer
returns-clause-answer c = answer_of_history

pub returns-clause-honest : goal.returns-clause-honest
returns-clause-honest c = honest_answer
