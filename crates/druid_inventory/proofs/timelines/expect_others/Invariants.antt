use Rattle.std.proofs.Common.{◌-◌, length}
use Rattle.druid_inventory.proofs.ChangeOfTimelineLemmas.{SameKept}
use Rattle.druid_inventory.proofs.timelines.expect_others.Given as goal

abbrev pub invariant-loop-descriptor : goal.invariant-loop-descriptor
invariant-loop-descriptor l = SameKept l.initial.timelines l.timelines

abbrev pub decreases-loop-place : goal.decreases-loop-place
decreases-loop-place l = length l.other - l.place
