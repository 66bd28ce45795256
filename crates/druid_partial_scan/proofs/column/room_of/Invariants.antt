use Rattle.std.proofs.Common.{◌≡◌, drop}
use Rattle.druid_partial_scan.specs.Cells.{room_from}
use Rattle.druid_partial_scan.proofs.column.room_of.Given as goal

abbrev pub invariant-loop-column : goal.invariant-loop-column
invariant-loop-column l = room_from (drop l.column-index l.columns) l.room ≡ room_from l.columns 1
