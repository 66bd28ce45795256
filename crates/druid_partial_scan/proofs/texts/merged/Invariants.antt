use Rattle.std.proofs.Common.{length, ◌-◌, ◌+◌}
use Rattle.druid_partial_scan.proofs.texts.merged.Given as goal

abbrev pub decreases-loop-i : goal.decreases-loop-i
decreases-loop-i l = (length l.left - l.i) + (length l.right - l.j)

abbrev pub decreases-loop-i-2 : goal.decreases-loop-i-2
decreases-loop-i-2 l = length l.left - l.i

abbrev pub decreases-loop-j : goal.decreases-loop-j
decreases-loop-j l = length l.right - l.j
