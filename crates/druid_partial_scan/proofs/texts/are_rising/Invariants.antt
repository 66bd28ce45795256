use Rattle.std.proofs.Common.{take}
use Rattle.std.specs.Prelude.{All}
use Rattle.druid_partial_scan.specs.Slices.{texts_in, IsRising}
use Rattle.druid_partial_scan.proofs.texts.are_rising.Given as goal

abbrev pub invariant-loop-texts : goal.invariant-loop-texts
invariant-loop-texts l = All IsRising (texts_in (take l.texts-index l.lists))
