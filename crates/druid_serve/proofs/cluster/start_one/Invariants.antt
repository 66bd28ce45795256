use Rattle.druid_serve.proofs.cluster.start_one.Given as goal

-- the broker's publisher and views are of this list, and begin with its inventory
abbrev pub ghosts-start_broker : goal.ghosts-start_broker
ghosts-start_broker g a = record { opening = a.parts.inventory; book = a.list }
