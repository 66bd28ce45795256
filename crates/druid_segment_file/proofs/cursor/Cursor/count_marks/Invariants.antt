use Rattle.std.proofs.Common.{◌≡◌, ◌-◌, ◌≤◌, List, Bool}
use Rattle.druid_segment_file.specs.Parts.{each_at}
use Rattle.druid_segment_file.specs.ColumnReader.{mark_at}
use Rattle.druid_segment_file.specs.FileRules.{ones}
use Rattle.druid_segment_file.proofs.LoopLemmas.{with_front}
use Rattle.druid_segment_file.proofs.cursor.Cursor.count_marks.Given as goal

abbrev pub invariant-loop : goal.invariant-loop
invariant-loop l = record {
  front : List Bool;
  count : l.count ≡ ones front;
  few : l.count ≤ l.counter;
  short : l.self.short ≡ l.fn.self.short;
  reading : with_front front (each_at (mark_at l.fn.self.short) (l.rows - l.counter) l.self.rest) ≡ each_at (mark_at l.fn.self.short) l.rows l.fn.self.rest;
}
