use Rattle.druid_broker_tests.proofs.broker.assert_answers.Given as goal

abbrev pub ghosts-assert_messages : goal.ghosts-assert_messages
ghosts-assert_messages g a = record { opening = a.setup.inventory; book = a.setup.list }
