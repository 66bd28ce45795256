use Rattle.std.proofs.Common.{◌≡◌, ◌-◌, ◌*◌, ◌≤◌, List, map}
use Rattle.std.specs.List.{sum}
use Rattle.druid_segment_file.specs.ColumnBytes.{Coded}
use Rattle.druid_segment_file.specs.Parts.{each_at}
use Rattle.druid_segment_file.specs.ColumnReader.{dimension_at, decoded}
use Rattle.druid_segment_file.specs.FileRules.{texts_length}
use Rattle.druid_segment_file.proofs.LoopLemmas.{with_front}
use Rattle.druid_segment_file.proofs.cursor.Cursor.dimensions_length.Given as goal

abbrev pub invariant-loop : goal.invariant-loop
invariant-loop l = record {
  front : List Coded;
  len : l.len ≡ sum (map (λ coded. texts_length (decoded coded)) front);
  bound : l.len ≤ 6553800000 * l.counter;
  short : l.self.short ≡ l.fn.self.short;
  reading : with_front front (each_at (dimension_at l.fn.self.short l.rows) (l.dimensions - l.counter) l.self.rest) ≡ each_at (dimension_at l.fn.self.short l.rows) l.dimensions l.fn.self.rest;
}
