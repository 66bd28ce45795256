use Rattle.std.proofs.Common.{◌≡◌, ◌-◌, ◌*◌, ◌≤◌, List, ℕ, map, length}
use Rattle.std.specs.List.{sum}
use Rattle.druid_segment_file.specs.Parts.{each_at}
use Rattle.druid_segment_file.specs.ColumnReader.{code_at}
use Rattle.druid_segment_file.specs.FileRules.{code_length, AreMarked}
use Rattle.druid_segment_file.proofs.LoopLemmas.{with_front}
use Rattle.druid_segment_file.proofs.cursor.Cursor.codes_length.Given as goal

abbrev pub invariant-loop : goal.invariant-loop
invariant-loop l = record {
  front : List ℕ;
  marked : AreMarked front l.marks;
  long : length l.marks ≡ length l.lens;
  len : l.len ≡ sum (map (code_length l.lens) front);
  bound : l.len ≤ 65538 * l.counter;
  short : l.self.short ≡ l.fn.self.short;
  reading : with_front front (each_at (code_at l.fn.self.short (length l.lens)) (l.rows - l.counter) l.self.rest) ≡ each_at (code_at l.fn.self.short (length l.lens)) l.rows l.fn.self.rest;
}
