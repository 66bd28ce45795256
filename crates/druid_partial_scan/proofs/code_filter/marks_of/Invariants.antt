use Rattle.std.proofs.Common.{◌≡◌, ◌+◌, ◌≤◌, ℕ, length, take, false}
use Rattle.std.specs.Prelude.{slice_index_or}
use Rattle.std.specs.List.{list_any}
use Rattle.std.specs.List.Sorted.{IsStrictlySortedBy}
use Rattle.std.specs.Ordering.{nat_cmp}
use Rattle.std.specs.Cmp.Lexicographic.{slice_cmp}
use Rattle.druid_filter.specs.Filters.{same_value}
use Rattle.druid_segment_rows.specs.Columns.{value_at}
use Rattle.druid_segment_rows.specs.Rows.{nullable_texts_of}
use Rattle.druid_partial_scan.proofs.code_filter.marks_of.Given as goal

abbrev pub invariant-loop-value : goal.invariant-loop-value
invariant-loop-value l = record {
  long : length l.marks.items ≡ length l.texts + 1;
  are : IsStrictlySortedBy (slice_cmp nat_cmp) l.texts → (code : ℕ) → code ≤ length l.texts
      → slice_index_or l.marks.items code false ≡ list_any (same_value (value_at l.texts code)) (nullable_texts_of (take l.value-index l.wanted));
}
