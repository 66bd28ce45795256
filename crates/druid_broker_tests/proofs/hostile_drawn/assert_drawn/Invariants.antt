use Rattle.druid_broker_tests.proofs.hostile_drawn.assert_drawn.Given as goal

abbrev pub ghosts-assert_draws : goal.ghosts-assert_draws
ghosts-assert_draws g a = record { opening = a.setup.inventory; book = a.setup.list }
