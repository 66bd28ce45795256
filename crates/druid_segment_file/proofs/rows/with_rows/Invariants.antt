use Rattle.std.proofs.Common.{◌≡◌, ◌-◌, length}
use Rattle.druid_segment_file.specs.Parts.{each_at, values_at}
use Rattle.druid_segment_file.specs.Builder.{HasRoom, with_read}
use Rattle.druid_segment_file.proofs.PartLemmas.{IsBytes}
use Rattle.druid_segment_file.proofs.rows.with_rows.Given as goal

abbrev pub invariant-loop : goal.invariant-loop
invariant-loop l = record {
  room : HasRoom l.builder l.fn.shape (l.count - l.counter) (length l.cursor.rest);
  fits : IsBytes l.cursor.rest;
  short : l.cursor.short ≡ l.fn.short;
  reading : with_read l.builder (each_at (values_at l.fn.short l.fn.shape) (l.count - l.counter) l.cursor.rest) ≡ with_read l.fn.builder (each_at (values_at l.fn.short l.fn.shape) l.count l.fn.bytes);
}
