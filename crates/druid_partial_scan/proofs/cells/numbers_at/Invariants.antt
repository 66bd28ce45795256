use Rattle.std.proofs.Common.{◌≡◌, take, map}
use Rattle.druid_partial_scan.specs.Cells.{number_from}
use Rattle.druid_partial_scan.proofs.cells.numbers_at.Given as goal

abbrev pub invariant-loop-column : goal.invariant-loop-column
invariant-loop-column l = l.numbers.items ≡ map (number_from l.row) (take l.column-index l.columns)
