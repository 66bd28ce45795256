use Rattle.std.proofs.Common.{◌≡◌, ◌-◌}
use Rattle.druid_segment_file.specs.Parts.{each_at}
use Rattle.druid_segment_file.specs.ColumnReader.{code_at}
use Rattle.druid_segment_file.proofs.LoopLemmas.{with_front}
use Rattle.druid_segment_file.proofs.cursor.Cursor.codes.Given as goal

abbrev pub invariant-loop : goal.invariant-loop
invariant-loop l = record {
  short : l.self.short ≡ l.fn.self.short;
  reading : with_front l.codes.items (each_at (code_at l.fn.self.short l.count) (l.rows - l.counter) l.self.rest) ≡ each_at (code_at l.fn.self.short l.count) l.rows l.fn.self.rest;
}
