use Rattle.std.proofs.Common.{◌≡◌, ◌-◌}
use Rattle.druid_segment_file.specs.Parts.{each_at}
use Rattle.druid_segment_file.specs.ColumnReader.{metric_at}
use Rattle.druid_segment_file.proofs.LoopLemmas.{with_front}
use Rattle.druid_segment_file.proofs.cursor.Cursor.metrics.Given as goal

abbrev pub invariant-loop : goal.invariant-loop
invariant-loop l = record {
  short : l.self.short ≡ l.fn.self.short;
  reading : with_front l.columns.items (each_at (metric_at l.fn.self.short l.rows) (l.metrics - l.counter) l.self.rest) ≡ each_at (metric_at l.fn.self.short l.rows) l.metrics l.fn.self.rest;
}
