use Rattle.druid_broker_tests.proofs.hung_replicas.held.Given as goal

abbrev pub ghosts-holds : goal.ghosts-holds
ghosts-holds g a = record { opening = a.setup.inventory; book = a.setup.list }
