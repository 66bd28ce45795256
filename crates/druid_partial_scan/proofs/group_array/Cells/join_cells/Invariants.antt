use Rattle.std.proofs.Common.{◌≡◌, length, take, drop}
use Rattle.druid_partial_scan.specs.Cells.{joined_cells}
use Rattle.druid_partial_scan.proofs.group_array.Cells.join_cells.Given as goal

abbrev pub invariant-loop-cell : goal.invariant-loop-cell
invariant-loop-cell g l = record {
  width : l.self.width ≡ l.initial.self.width;
  room : length l.self.groups ≡ length l.initial.self.groups;
  groups : l.self.groups ≡ joined_cells l.kinds l.initial.self.groups (take l.cell l.fn.other.groups);
  long : length l.others.items ≡ length l.initial.others.items;
  left : drop l.cell l.others.items ≡ drop l.cell l.initial.others.items;
}
