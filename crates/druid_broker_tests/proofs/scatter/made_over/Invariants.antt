use Rattle.druid_broker_tests.proofs.scatter.made_over.Given as goal

abbrev pub ghosts-made_in_turn : goal.ghosts-made_in_turn
ghosts-made_in_turn g a = record { opening = a.setup.inventory; book = a.setup.list }
