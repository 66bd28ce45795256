use Rattle.std.proofs.Common.{◌≡◌, map}
use Rattle.std.specs.Arc.{arc_value}
use Rattle.druid_inventory.specs.Entry.{fresh}
use Rattle.druid_inventory.proofs.inventory.fresh_entries.Given as goal

abbrev pub invariant-loop-name : goal.invariant-loop-name
invariant-loop-name l = map arc_value l.entries.items ≡ map fresh l.yielded
