use Rattle.std.proofs.Common.{◌≡◌, ◌-◌, length}
use Rattle.druid_segment_file.specs.Parts.{each_at, text_value_at}
use Rattle.druid_segment_file.specs.Borrowed.{values_borrowed}
use Rattle.druid_segment_file.proofs.LoopLemmas.{with_front}
use Rattle.druid_segment_file.proofs.cursor.Cursor.texts.Given as goal

abbrev pub invariant-loop : goal.invariant-loop
invariant-loop l = record {
  few : length l.texts.items ≡ l.counter;
  short : l.self.short ≡ l.fn.self.short;
  reading : with_front (values_borrowed l.texts.items) (each_at (text_value_at l.fn.self.short) (l.count - l.counter) l.self.rest) ≡ each_at (text_value_at l.fn.self.short) l.count l.fn.self.rest;
}
