use Rattle.std.proofs.Common.{◌≡◌, take}
use Rattle.druid_segment_rows.specs.Rows.{nullable_texts_of}
use Rattle.druid_segment_rows.specs.Columns.{across}
use Rattle.druid_segment_rows.proofs.table.texts_across.Given as goal

abbrev pub invariant-loop-column : goal.invariant-loop-column
invariant-loop-column l = nullable_texts_of l.values.items ≡ across (take l.column-index l.columns) l.row
