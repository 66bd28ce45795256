use Rattle.std.proofs.Common.{◌≤◌, ◌≡◌, ◌+◌, ◌-◌, length}
use Rattle.std.specs.Vec.{vec_capacity}
use Rattle.druid_timeline.proofs.MoveLemmas.{AreMoved}
use Rattle.druid_timeline.proofs.edit.move_end.Given as goal

abbrev pub invariant-loop-runs : goal.invariant-loop-runs
invariant-loop-runs l = record {
  moved : AreMoved l.initial.runs.items l.initial.others.items l.runs.items l.others.items;
  inside : l.from ≤ length l.runs.items;
  room : length l.others.items + (length l.runs.items - l.from) ≤ vec_capacity l.others;
  capacity : vec_capacity l.runs ≡ vec_capacity l.initial.runs;
  others_capacity : vec_capacity l.others ≡ vec_capacity l.initial.others;
}

abbrev pub decreases-loop-runs : goal.decreases-loop-runs
decreases-loop-runs l = length l.runs.items - l.from
