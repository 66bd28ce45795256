use Rattle.std.proofs.Common.{take}
use Rattle.druid_partial_scan.specs.Slices.{texts_in, AreCoded}
use Rattle.druid_partial_scan.proofs.texts.coded_columns.Given as goal

abbrev pub invariant-loop-index : goal.invariant-loop-index
invariant-loop-index l = AreCoded l.segment (texts_in (take l.index l.lists)) (take l.index l.places) l.columns.items
