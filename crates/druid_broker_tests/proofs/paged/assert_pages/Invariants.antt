use Rattle.druid_broker_tests.proofs.paged.assert_pages.Given as goal

abbrev pub ghosts-assert_turns : goal.ghosts-assert_turns
ghosts-assert_turns g a = record { opening = a.inventory; book = a.list }
