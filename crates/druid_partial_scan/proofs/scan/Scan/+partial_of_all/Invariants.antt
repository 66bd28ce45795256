use Rattle.std.proofs.Common.{length}
use Rattle.druid_partial_scan.proofs.scan.Scan.+partial_of_all.Given as goal

abbrev pub decreases-partial_of_all : goal.decreases-partial_of_all
decreases-partial_of_all l = length l.pieces.now
