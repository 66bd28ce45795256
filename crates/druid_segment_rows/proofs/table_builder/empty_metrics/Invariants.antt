use Rattle.std.proofs.Common.{◌≡◌, [], replicate}
use Rattle.druid_segment_rows.proofs.table_builder.empty_metrics.Given as goal

abbrev pub invariant-loop-column : goal.invariant-loop-column
invariant-loop-column l = l.columns.items ≡ replicate l._column []
