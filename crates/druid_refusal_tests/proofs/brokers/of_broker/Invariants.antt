use Rattle.druid_refusal_tests.proofs.brokers.of_broker.Given as goal

abbrev pub ghosts-turns_of_broker : goal.ghosts-turns_of_broker
ghosts-turns_of_broker g a = record { opening = a.inventory; book = a.list }
