use Rattle.std.proofs.Common.{length}
use Rattle.druid_partial_scan.proofs.texts.+texts_named.Given as goal

abbrev pub decreases-texts_named : goal.decreases-texts_named
decreases-texts_named l = length l.slices.now
