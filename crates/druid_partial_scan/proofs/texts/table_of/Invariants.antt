use Rattle.std.proofs.Common.{take}
use Rattle.druid_segment_rows.specs.Columns.{AreCodes}
use Rattle.druid_partial_scan.specs.Slices.{borrowed_texts, values_in}
use Rattle.druid_partial_scan.proofs.texts.table_of.Given as goal

abbrev pub invariant-loop-code : goal.invariant-loop-code
invariant-loop-code l = AreCodes (borrowed_texts l.texts) (values_in (take l.code l.own)) l.table.items
