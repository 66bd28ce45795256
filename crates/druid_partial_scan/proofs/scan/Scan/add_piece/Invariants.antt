use Rattle.druid_partial_scan.specs.Cells.{room_from}
use Rattle.druid_partial_scan.specs.Scans.{counted_upto, HasRoom}
use Rattle.druid_partial_scan.specs.Slices.{Texts, IsOver, Adds, groups_held}
use Rattle.druid_partial_scan.proofs.scan.Scan.add_piece.Given as goal

abbrev pub invariant-loop-row : goal.invariant-loop-row
invariant-loop-row l = record {
  room : HasRoom l.self.query (room_from l.self.columns 1) l.cells;
  adds : (texts : Texts) → IsOver texts l.self
      → Adds l.self.query texts (counted_upto l.self.query l.self.segment l.interval l.row) (groups_held l.initial.cells.groups) (groups_held l.cells.groups);
}
