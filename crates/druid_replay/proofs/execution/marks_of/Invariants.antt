use Rattle.std.proofs.Common.{◌≡◌, map, take}
use Rattle.druid_replay.proofs.execution.marks_of.Given as goal

abbrev pub invariant-loop-node : goal.invariant-loop-node
invariant-loop-node l = l.marks.items ≡ map (λ e. e.mark) (take l.node l.inventory)
