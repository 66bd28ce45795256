use Rattle.std.proofs.Common.{◌≡◌, take}
use Rattle.druid_inventory.proofs.known.copy_of.Given as goal

abbrev pub invariant-loop-descriptor : goal.invariant-loop-descriptor
invariant-loop-descriptor l = l.copy.items ≡ take l.descriptor-index l.set
