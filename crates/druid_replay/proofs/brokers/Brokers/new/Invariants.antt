use Rattle.std.proofs.Common.{◌≡◌, replicate}
use Rattle.druid_replay.proofs.brokers.Brokers.new.Given as goal

abbrev pub invariant-loop : goal.invariant-loop
invariant-loop l = l.inventories.items ≡ replicate l.counter l.inventory
