use Rattle.druid_broker_tests.proofs.sockets.seeded.Given as goal

abbrev pub ghosts-equals_its_peer-J-Publication : goal.ghosts-equals_its_peer-J-Publication
ghosts-equals_its_peer-J-Publication g a = record { opening = a.setup.inventory; book = a.setup.list }

abbrev pub ghosts-equals_its_peer-K-Publication : goal.ghosts-equals_its_peer-K-Publication
ghosts-equals_its_peer-K-Publication g a = record { opening = a.inventory; book = a.list }
