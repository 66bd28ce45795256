use Rattle.std.proofs.Common.{◌≡◌, drop}
use Rattle.druid_filter.specs.Filters.{value_in}
use Rattle.druid_segment_rows.specs.Rows.{texts_of, nullable_texts_of}
use Rattle.druid_segment_rows.proofs.filter.value_of.Given as goal

abbrev pub invariant-loop-place : goal.invariant-loop-place
invariant-loop-place l =
    value_in (texts_of (drop l.place l.names)) (nullable_texts_of (drop l.place l.values)) l.name
    ≡ value_in (texts_of l.names) (nullable_texts_of l.values) l.name
