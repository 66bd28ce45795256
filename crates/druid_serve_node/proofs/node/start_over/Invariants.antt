use Rattle.druid_serve_node.proofs.node.start_over.Given as goal

-- the node is of the incarnation of the state that it goes on from
abbrev pub ghosts-start_from : goal.ghosts-start_from
ghosts-start_from g a = record { number = a.state.history.incarnation }
