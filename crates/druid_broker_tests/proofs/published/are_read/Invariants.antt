use Rattle.druid_broker_tests.proofs.published.are_read.Given as goal

abbrev pub ghosts-all_read : goal.ghosts-all_read
ghosts-all_read g a = record { opening = a.inventory; book = a.opened }
