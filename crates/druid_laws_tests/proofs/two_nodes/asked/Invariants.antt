use Rattle.druid_laws_tests.proofs.two_nodes.asked.Given as goal

-- the publisher and its view are of this list, and begin with this inventory
abbrev pub ghosts-ask_two : goal.ghosts-ask_two
ghosts-ask_two g a = record { opening = a.inventory; book = a.list }
