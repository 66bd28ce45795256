use Rattle.std.proofs.Common.{◌≡◌, ◌-◌, List, ℕ, map, take, length, option_map, None}
use Rattle.druid_segment_file.specs.ColumnReader.{value_texts_at}
use Rattle.druid_segment_file.specs.Borrowed.{bytes_of}
use Rattle.druid_segment_file.proofs.LoopLemmas.{with_front}
use Rattle.druid_segment_file.proofs.cursor.Cursor.skip_texts.Given as goal

abbrev pub invariant-loop-place : goal.invariant-loop-place
invariant-loop-place l = record {
  front : List (List ℕ);
  len : length l.lens ≡ length l.fn.lens;
  done : take l.place l.lens ≡ map length front;
  short : l.self.short ≡ l.fn.self.short;
  reading : with_front front (value_texts_at l.fn.self.short (length l.fn.lens - l.place) (option_map bytes_of l.last) l.self.rest) ≡ value_texts_at l.fn.self.short (length l.fn.lens) None l.fn.self.rest;
}
