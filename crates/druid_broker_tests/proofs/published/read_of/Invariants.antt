use Rattle.druid_broker_tests.proofs.published.read_of.Given as goal

abbrev pub ghosts-both_read : goal.ghosts-both_read
ghosts-both_read g a = record { opening = a.inventory; book = a.opened }
