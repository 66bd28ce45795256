use Rattle.std.proofs.Common.{List, ◌++◌}
use Rattle.druid_partial.specs.Groups.{Group}
use Rattle.druid_partial_scan.specs.Cells.{room_from, cells_in}
use Rattle.druid_partial_scan.specs.Scans.{AreUpto, AreCells, ComeBefore, HasRoom, bucket_at, groups_in}
use Rattle.druid_partial_scan.proofs.scan.Scan.tally_cells.Given as goal

abbrev pub invariant-loop-row : goal.invariant-loop-row
invariant-loop-row l = record {
  room : HasRoom l.self.query (room_from l.self.columns 1) l.cells;
  are : AreCells l.self (bucket_at l.self l.from) (cells_in l.cells.groups);
  upto : (groups : List Group) → ComeBefore l.self groups l.from l.to → AreUpto l.self l.interval l.from groups
      → AreUpto l.self l.interval l.row (groups ++ groups_in l.self (cells_in l.cells.groups));
}
