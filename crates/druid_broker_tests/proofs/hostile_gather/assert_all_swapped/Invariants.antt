use Rattle.druid_broker_tests.proofs.hostile_gather.assert_all_swapped.Given as goal

abbrev pub ghosts-assert_lines : goal.ghosts-assert_lines
ghosts-assert_lines g a = record { opening = a.setup.inventory; book = a.setup.list }
