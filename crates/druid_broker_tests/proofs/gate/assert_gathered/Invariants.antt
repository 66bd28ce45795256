use Rattle.druid_broker_tests.proofs.gate.assert_gathered.Given as goal

abbrev pub ghosts-gathered_over : goal.ghosts-gathered_over
ghosts-gathered_over g a = record { opening = a.setup.inventory; book = a.setup.list }
