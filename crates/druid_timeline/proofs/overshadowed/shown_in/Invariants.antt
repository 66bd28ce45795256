use Rattle.std.proofs.Common.{◌↔◌, take}
use Rattle.std.specs.Bool.{IsTrue}
use Rattle.std.specs.HashSet as set
use Rattle.druid_segment_id.specs.Group.{Group, same_group}
use Rattle.druid_timeline.proofs.UnseenLemmas.{IsShownBy}
use Rattle.druid_timeline.proofs.overshadowed.shown_in.Given as goal

abbrev pub invariant-loop-run : goal.invariant-loop-run
invariant-loop-run l = (g : Group) → IsTrue (set.contains same_group l.shown g) ↔ IsShownBy (take l.run-index l.runs) g
