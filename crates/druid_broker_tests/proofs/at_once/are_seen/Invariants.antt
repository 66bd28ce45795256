use Rattle.druid_broker_tests.proofs.at_once.are_seen.Given as goal

abbrev pub ghosts-all_see : goal.ghosts-all_see
ghosts-all_see g a = record { opening = a.inventory; book = a.list }
