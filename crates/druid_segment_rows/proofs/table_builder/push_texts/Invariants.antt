use Rattle.std.proofs.Common.{◌≡◌, take}
use Rattle.druid_segment_rows.specs.Rows.{texts_by}
use Rattle.druid_segment_rows.specs.Table.{with_values}
use Rattle.druid_segment_rows.proofs.table_builder.push_texts.Given as goal

abbrev pub invariant-loop-place : goal.invariant-loop-place
invariant-loop-place g l = l.columns ≡ with_values l.initial.columns (take l.place (texts_by g.T.AsStr.text l.values))
