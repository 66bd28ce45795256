use Rattle.druid_broker_tests.proofs.broker.is_failure_met.Given as goal

abbrev pub ghosts-fails_as_it_should : goal.ghosts-fails_as_it_should
ghosts-fails_as_it_should g a = record { opening = a.setup.inventory; book = a.setup.list }
