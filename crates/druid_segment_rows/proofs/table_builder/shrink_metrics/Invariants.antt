use Rattle.std.proofs.Common.{◌≡◌}
use Rattle.druid_segment_rows.proofs.table_builder.shrink_metrics.Given as goal

abbrev pub invariant-loop-place : goal.invariant-loop-place
invariant-loop-place l = l.metrics ≡ l.initial.metrics
