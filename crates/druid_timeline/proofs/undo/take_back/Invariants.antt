use Rattle.std.proofs.Common.{◌≡◌, length, reverse}
use Rattle.std.specs.Vec.{vec_capacity}
use Rattle.druid_timeline.specs.Exchanges.{CanUndo, undone}
use Rattle.druid_timeline.proofs.undo.take_back.Given as goal

abbrev pub invariant-loop-log : goal.invariant-loop-log
invariant-loop-log l = record {
  can : CanUndo (reverse l.log.items) l.runs.items (vec_capacity l.runs);
  same : undone (reverse l.log.items) l.runs.items ≡ undone (reverse l.initial.log.items) l.initial.runs.items;
}

abbrev pub decreases-loop-log : goal.decreases-loop-log
decreases-loop-log l = length l.log.items
