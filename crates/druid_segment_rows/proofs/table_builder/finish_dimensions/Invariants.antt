use Rattle.std.proofs.Common.{◌≡◌, ◌++◌, vec_capacity}
use Rattle.std.specs.Vec.Iter.{into_iter_items}
use Rattle.druid_segment_rows.proofs.table_builder.finish_dimensions.Given as goal

abbrev pub invariant-loop-column : goal.invariant-loop-column
invariant-loop-column l = record {
  all : l.columns.items ++ into_iter_items l.column-iterator ≡ l.fn.dimensions.items;
  room : vec_capacity l.columns ≡ vec_capacity l.fn.columns;
}
