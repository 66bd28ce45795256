use Rattle.druid_broker_tests.proofs.broker.answer_of.Given as goal

abbrev pub ghosts-answer_to : goal.ghosts-answer_to
ghosts-answer_to g a = record { opening = a.setup.inventory; book = a.setup.list }
