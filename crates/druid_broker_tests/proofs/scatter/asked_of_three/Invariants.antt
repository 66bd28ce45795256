use Rattle.druid_broker_tests.proofs.scatter.asked_of_three.Given as goal

abbrev pub ghosts-asked_over : goal.ghosts-asked_over
ghosts-asked_over g a = record { opening = a.setup.inventory; book = a.setup.list }
