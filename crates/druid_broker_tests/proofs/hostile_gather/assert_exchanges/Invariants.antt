use Rattle.druid_broker_tests.proofs.hostile_gather.assert_exchanges.Given as goal

abbrev pub ghosts-assert_each : goal.ghosts-assert_each
ghosts-assert_each g a = record { opening = a.setup.inventory; book = a.setup.list }
