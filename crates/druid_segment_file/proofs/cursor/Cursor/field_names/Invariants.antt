use Rattle.std.proofs.Common.{◌≡◌, ◌-◌, ◌++◌, length}
use Rattle.druid_segment_file.specs.Parts.{field_names_at}
use Rattle.druid_segment_file.specs.Borrowed.{texts_borrowed}
use Rattle.druid_segment_file.proofs.LoopLemmas.{with_front}
use Rattle.druid_segment_file.proofs.cursor.Cursor.field_names.Given as goal

abbrev pub invariant-loop : goal.invariant-loop
invariant-loop l = record {
  few : length l.names.items ≡ l.counter;
  short : l.self.short ≡ l.fn.self.short;
  reading : with_front (texts_borrowed l.names.items) (field_names_at l.fn.self.short (l.count - l.counter) (texts_borrowed l.others ++ texts_borrowed l.names.items) l.self.rest)
      ≡ field_names_at l.fn.self.short l.count (texts_borrowed l.others) l.fn.self.rest;
}
