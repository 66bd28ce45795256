use Rattle.std.proofs.Common.{◌≡◌, ◌-◌, List, ℕ}
use Rattle.druid_segment_file.specs.Parts.{each_at, row_time_at}
use Rattle.druid_segment_file.proofs.LoopLemmas.{with_front}
use Rattle.druid_segment_file.proofs.cursor.Cursor.skip_times.Given as goal

abbrev pub invariant-loop : goal.invariant-loop
invariant-loop l = record {
  front : List ℕ;
  short : l.self.short ≡ l.fn.self.short;
  reading : with_front front (each_at (row_time_at l.fn.self.short l.interval) (l.rows - l.counter) l.self.rest) ≡ each_at (row_time_at l.fn.self.short l.interval) l.rows l.fn.self.rest;
}
