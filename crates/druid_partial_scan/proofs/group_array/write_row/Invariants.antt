use Rattle.std.proofs.Common.{◌≡◌, ◌++◌, take, drop, map}
use Rattle.druid_partial_scan.specs.Cells.{number_from}
use Rattle.druid_partial_scan.proofs.group_array.write_row.Given as goal

abbrev pub invariant-loop-place : goal.invariant-loop-place
invariant-loop-place l = l.numbers ≡ map (number_from l.row) (take l.place l.columns) ++ drop l.place l.initial.numbers
