use Rattle.std.proofs.Common.{◌≡◌, drop, None}
use Rattle.std.specs.List.{list_any}
use Rattle.druid_filter.specs.Filters.{same_value}
use Rattle.druid_segment_rows.specs.Rows.{nullable_texts_of}
use Rattle.druid_partial_scan.proofs.code_filter.has_null.Given as goal

abbrev pub invariant-loop-value : goal.invariant-loop-value
invariant-loop-value l = list_any (same_value None) (nullable_texts_of (drop l.value-index l.wanted)) ≡ list_any (same_value None) (nullable_texts_of l.wanted)
