use Rattle.std.proofs.Common.{◌≤◌, List}
use Rattle.druid_segment_id.specs.Group.{Group}
use Rattle.druid_base_tests.specs.Others.{AreAmong}
use Rattle.druid_base_tests.proofs.edit_bound.add_days.Given as goal

abbrev pub invariant-loop-day : goal.invariant-loop-day
invariant-loop-day w l = record {
  later : l.fn.from ≤ l.start;
  among : (g : Group) (others : List Group) → g.interval.end ≤ l.fn.from → AreAmong l.fn.timeline.held g others → AreAmong l.timeline.held g others;
}
