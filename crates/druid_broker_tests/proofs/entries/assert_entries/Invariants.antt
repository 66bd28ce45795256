use Rattle.druid_broker_tests.proofs.entries.assert_entries.Given as goal

abbrev pub ghosts-assert_lines : goal.ghosts-assert_lines
ghosts-assert_lines g a = record { opening = a.inventory; book = a.list }
