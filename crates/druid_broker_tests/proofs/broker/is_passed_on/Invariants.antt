use Rattle.druid_broker_tests.proofs.broker.is_passed_on.Given as goal

abbrev pub ghosts-passes_on : goal.ghosts-passes_on
ghosts-passes_on g a = record { opening = a.setup.inventory; book = a.setup.list }
