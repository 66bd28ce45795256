use Rattle.druid_broker_tests.proofs.unread.answer_to.Given as goal

abbrev pub ghosts-answer_alone : goal.ghosts-answer_alone
ghosts-answer_alone g a = record { opening = a.setup.inventory; book = a.setup.list }
