use Rattle.std.proofs.Common.{◌≡◌, ◌-◌, ◌*◌, ◌≤◌, List, ℤ, Option, map}
use Rattle.std.specs.List.{sum}
use Rattle.druid_segment_file.specs.Parts.{each_at}
use Rattle.druid_segment_file.specs.ColumnReader.{metric_at}
use Rattle.druid_segment_file.specs.FileRules.{numbers_length}
use Rattle.druid_segment_file.proofs.LoopLemmas.{with_front}
use Rattle.druid_segment_file.proofs.cursor.Cursor.metrics_length.Given as goal

abbrev pub invariant-loop : goal.invariant-loop
invariant-loop l = record {
  front : List (List (Option ℤ));
  len : l.len ≡ sum (map numbers_length front);
  bound : l.len ≤ 900000 * l.counter;
  short : l.self.short ≡ l.fn.self.short;
  reading : with_front front (each_at (metric_at l.fn.self.short l.rows) (l.metrics - l.counter) l.self.rest) ≡ each_at (metric_at l.fn.self.short l.rows) l.metrics l.fn.self.rest;
}
