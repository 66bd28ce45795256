use Rattle.druid_broker_tests.proofs.turns.reported.Given as goal

abbrev pub ghosts-turned : goal.ghosts-turned
ghosts-turned g a = record { opening = a.inventory; book = a.opened }
