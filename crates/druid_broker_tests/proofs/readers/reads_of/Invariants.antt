use Rattle.druid_broker_tests.proofs.readers.reads_of.Given as goal

abbrev pub ghosts-read_in_threads : goal.ghosts-read_in_threads
ghosts-read_in_threads g a = record { opening = a.inventory; book = a.opened }
