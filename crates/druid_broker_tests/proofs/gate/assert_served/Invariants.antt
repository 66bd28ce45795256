use Rattle.druid_broker_tests.proofs.gate.assert_served.Given as goal

abbrev pub ghosts-served_over : goal.ghosts-served_over
ghosts-served_over g a = record { opening = a.setup.inventory; book = a.setup.list }
