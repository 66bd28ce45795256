use Rattle.std.proofs.Common.{◌≡◌, ◌++◌, All, drop, length}
use Rattle.druid_partial.specs.Groups.{Group, AreWords}
use Rattle.druid_partial_scan.specs.Slices.{groups_held, present}
use Rattle.druid_partial_scan.proofs.slices.closed.Given as goal

abbrev pub invariant-loop-cell : goal.invariant-loop-cell
invariant-loop-cell l = record {
  long : length l.cells.groups ≡ l.cell-end;
  whole : l.groups.items ++ present (drop l.cell (groups_held l.cells.groups)) ≡ present (groups_held l.initial.cells.groups);
  words : All (λ (g : Group). AreWords g.numbers) (present (drop l.cell (groups_held l.cells.groups)));
}
