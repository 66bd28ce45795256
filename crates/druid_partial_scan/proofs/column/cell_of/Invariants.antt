use Rattle.std.proofs.Common.{◌≡◌, ◌≤◌, ◌+◌, drop}
use Rattle.druid_partial_scan.specs.Cells.{cell_from, room_from}
use Rattle.druid_partial_scan.proofs.column.cell_of.Given as goal

abbrev pub invariant-loop-column : goal.invariant-loop-column
invariant-loop-column l = record {
  value : cell_from (drop l.column-index l.columns) l.row l.cell ≡ cell_from l.columns l.row 0;
  inside : room_from (drop l.column-index l.columns) (l.cell + 1) ≤ room_from l.columns 1;
}
