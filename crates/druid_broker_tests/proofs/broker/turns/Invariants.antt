use Rattle.druid_broker_tests.proofs.broker.turns.Given as goal

abbrev pub ghosts-turns_on : goal.ghosts-turns_on
ghosts-turns_on g a = record { opening = a.setup.inventory; book = a.setup.list }
