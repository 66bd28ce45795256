use Rattle.std.proofs.Common.{◌≡◌, ◌-◌, List}
use Rattle.druid_segment_rows.specs.Rows.{Row}
use Rattle.druid_segment_file.specs.Parts.{each_at, values_at}
use Rattle.druid_segment_file.proofs.LoopLemmas.{with_front}
use Rattle.druid_segment_file.proofs.cursor.Cursor.skip_rows.Given as goal

abbrev pub invariant-loop : goal.invariant-loop
invariant-loop l = record {
  front : List Row;
  short : l.self.short ≡ l.fn.self.short;
  reading : with_front front (each_at (values_at l.fn.self.short l.shape) (l.count - l.counter) l.self.rest) ≡ each_at (values_at l.fn.self.short l.shape) l.count l.fn.self.rest;
}
