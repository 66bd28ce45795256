use Rattle.std.proofs.Common.{length}
use Rattle.druid_partial_scan.proofs.slices.+partial_in_halves.Given as goal

abbrev pub decreases-partial_in_halves : goal.decreases-partial_in_halves
decreases-partial_in_halves l = length l.slices.now
