use Rattle.std.proofs.Common.{take}
use Rattle.std.specs.List.{flat_map}
use Rattle.druid_partial_scan.specs.Rows.{counted_by}
use Rattle.druid_partial_scan.specs.Cells.{room_from}
use Rattle.druid_partial_scan.specs.Scans.{HasRoom}
use Rattle.druid_partial_scan.specs.Slices.{Texts, IsOver, Adds, groups_held}
use Rattle.druid_partial_scan.proofs.scan.Scan.add_pieces.Given as goal

abbrev pub invariant-loop-interval : goal.invariant-loop-interval
invariant-loop-interval l = record {
  room : HasRoom l.self.query (room_from l.self.columns 1) l.cells;
  adds : (texts : Texts) → IsOver texts l.self
      → Adds l.self.query texts (flat_map (counted_by l.self.query l.self.segment) (take l.interval-index l.pieces)) (groups_held l.initial.cells.groups) (groups_held l.cells.groups);
}
