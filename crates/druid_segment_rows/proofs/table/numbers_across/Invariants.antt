use Rattle.std.proofs.Common.{◌≡◌, take}
use Rattle.druid_segment_rows.specs.Columns.{across}
use Rattle.druid_segment_rows.proofs.table.numbers_across.Given as goal

abbrev pub invariant-loop-column : goal.invariant-loop-column
invariant-loop-column l = l.values.items ≡ across (take l.column-index l.columns) l.row
