use Rattle.std.proofs.Common.{◌≡◌, ◌++◌, map, take, drop}
use Rattle.druid_segment_rows.proofs.table_builder.cut_texts.Given as goal

abbrev pub invariant-loop-place : goal.invariant-loop-place
invariant-loop-place l = l.columns ≡ map (take l.rows) (take l.place l.initial.columns) ++ drop l.place l.initial.columns
