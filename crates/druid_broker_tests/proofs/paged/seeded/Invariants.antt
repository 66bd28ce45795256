use Rattle.druid_broker_tests.proofs.paged.seeded.Given as goal

abbrev pub ghosts-is_seeded-J-Publication : goal.ghosts-is_seeded-J-Publication
ghosts-is_seeded-J-Publication g a = record { opening = a.setup.inventory; book = a.setup.list }

abbrev pub ghosts-is_seeded-K-Publication : goal.ghosts-is_seeded-K-Publication
ghosts-is_seeded-K-Publication g a = record { opening = a.inventory; book = a.list }
