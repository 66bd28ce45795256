use Rattle.std.proofs.Common.{◌≡◌, take}
use Rattle.druid_segment_rows.specs.Table.{with_values}
use Rattle.druid_segment_rows.proofs.table_builder.push_numbers.Given as goal

abbrev pub invariant-loop-place : goal.invariant-loop-place
invariant-loop-place l = l.columns ≡ with_values l.initial.columns (take l.place l.values)
