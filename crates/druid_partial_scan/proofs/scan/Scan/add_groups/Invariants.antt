use Rattle.std.proofs.Common.{◌≡◌, ◌++◌, All, drop, length}
use Rattle.druid_partial_scan.specs.Cells.{cells_in}
use Rattle.druid_partial_scan.specs.Scans.{IsKept, groups_in}
use Rattle.druid_partial_scan.proofs.scan.Scan.add_groups.Given as goal

abbrev pub invariant-loop-cell : goal.invariant-loop-cell
invariant-loop-cell l = record {
  long : length l.cells.groups ≡ l.cell-end;
  whole : l.groups.items ++ groups_in l.self (drop l.cell (cells_in l.cells.groups)) ≡ l.initial.groups.items ++ groups_in l.self (cells_in l.initial.cells.groups);
  kept : All (IsKept l.self) (drop l.cell (cells_in l.cells.groups));
}
