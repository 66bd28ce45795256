use Rattle.std.proofs.Common.{take, All}
use Rattle.druid_segment_rows.specs.Rows.{AreWords}
use Rattle.druid_segment_rows.proofs.segment.read_metrics.Given as goal

abbrev pub invariant-loop-column : goal.invariant-loop-column
invariant-loop-column l = All AreWords (take l.column-index l.columns)
