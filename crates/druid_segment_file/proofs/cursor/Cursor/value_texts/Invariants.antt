use Rattle.std.proofs.Common.{◌≡◌, ◌-◌, option_map, None}
use Rattle.druid_segment_file.specs.ColumnReader.{value_texts_at}
use Rattle.druid_segment_file.specs.Borrowed.{bytes_of}
use Rattle.druid_segment_file.proofs.LoopLemmas.{with_front}
use Rattle.druid_segment_file.proofs.cursor.Cursor.value_texts.Given as goal

abbrev pub invariant-loop : goal.invariant-loop
invariant-loop l = record {
  short : l.self.short ≡ l.fn.self.short;
  reading : with_front l.values (value_texts_at l.fn.self.short (l.count - l.counter) (option_map bytes_of l.last) l.self.rest) ≡ value_texts_at l.fn.self.short l.count None l.fn.self.rest;
}
