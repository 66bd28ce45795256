use Rattle.druid_refusal_tests.proofs.published.of_open.Given as goal

abbrev pub ghosts-open_and_publish : goal.ghosts-open_and_publish
ghosts-open_and_publish g a = record { opening = a.inventory; book = a.list }
