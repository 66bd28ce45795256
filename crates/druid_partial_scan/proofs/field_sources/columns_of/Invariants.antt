use Rattle.std.proofs.Common.{take}
use Rattle.druid_partial_scan.specs.Cells.{AreColumns}
use Rattle.druid_partial_scan.proofs.field_sources.columns_of.Given as goal

abbrev pub invariant-loop-place : goal.invariant-loop-place
invariant-loop-place l = AreColumns l.segment (take l.place-index l.places) l.columns.items
