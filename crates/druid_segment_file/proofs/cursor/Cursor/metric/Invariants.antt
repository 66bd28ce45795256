use Rattle.std.proofs.Common.{◌≡◌, ◌-◌, List, Bool, ℕ, Ok}
use Rattle.druid_segment_file.specs.Parts.{each_at}
use Rattle.druid_segment_file.specs.ColumnReader.{mark_at, present_at, metric_at}
use Rattle.druid_segment_file.proofs.LoopLemmas.{with_front}
use Rattle.druid_segment_file.proofs.cursor.Cursor.metric.Given as goal

abbrev pub invariant-loop : goal.invariant-loop
invariant-loop l = record {
  left : List Bool;
  after : List ℕ;
  marked : each_at (mark_at l.fn.self.short) (l.rows - l.counter) l.marks.rest ≡ Ok (left, after);
  marks_short : l.marks.short ≡ l.fn.self.short;
  short : l.self.short ≡ l.fn.self.short;
  reading : with_front l.numbers (present_at l.fn.self.short left l.self.rest) ≡ metric_at l.fn.self.short l.rows l.fn.self.rest;
}
