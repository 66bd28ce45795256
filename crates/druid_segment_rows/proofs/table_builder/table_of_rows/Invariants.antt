use Rattle.std.proofs.Common.{◌≡◌}
use Rattle.druid_segment_rows.proofs.table_builder.table_of_rows.Given as goal

abbrev pub invariant-loop-row : goal.invariant-loop-row
invariant-loop-row l = l.table ≡ record { dimensions = l.dimensions; metrics = l.metrics; rows = l.yielded }
