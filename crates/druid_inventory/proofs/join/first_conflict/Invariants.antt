use Rattle.std.proofs.Common.{map}
use Rattle.std.specs.Arc.{arc_value}
use Rattle.druid_inventory.proofs.JoinLemmas.{AgreeTo}
use Rattle.druid_inventory.proofs.join.first_conflict.Given as goal

abbrev pub invariant-loop-node : goal.invariant-loop-node
invariant-loop-node l = AgreeTo (map arc_value l.a) (map arc_value l.b) l.node
