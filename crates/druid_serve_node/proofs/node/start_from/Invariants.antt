use Rattle.druid_serve_node.proofs.node.start_from.Given as goal

-- the threads begin at the mark that the node has after its loads and tombstones
abbrev pub ghosts-start_threads : goal.ghosts-start_threads
ghosts-start_threads g a = record { mark = a.ready.watch.seen }
