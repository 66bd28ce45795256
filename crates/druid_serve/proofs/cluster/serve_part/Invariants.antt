use Rattle.druid_serve.proofs.cluster.serve_part.Given as goal

-- the brokers are of the config's list of nodes
abbrev pub ghosts-start_brokers : goal.ghosts-start_brokers
ghosts-start_brokers g a = record { nodes = a.nodes.now }
