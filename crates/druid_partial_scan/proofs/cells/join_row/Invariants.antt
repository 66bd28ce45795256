use Rattle.std.proofs.Common.{◌≡◌, take, map}
use Rattle.druid_partial_scan.specs.Cells.{number_from, join_into}
use Rattle.druid_partial_scan.proofs.cells.join_row.Given as goal

abbrev pub invariant-loop-place : goal.invariant-loop-place
invariant-loop-place l = l.numbers ≡ join_into (take l.place l.kinds) (map (number_from l.row) l.columns) l.initial.numbers
