use Rattle.std.proofs.Common.{◌≡◌, ◌<◌, ℕ, length, take}
use Rattle.druid_filter.specs.Filters.{all_pass, any_passes, each_says}
use Rattle.druid_partial_scan.specs.CodeFilters.{all_hold, any_holds, value_of}
use Rattle.druid_partial_scan.proofs.code_filter.+code_filter_of.Given as goal

abbrev pub invariant-code_filters_of-loop-filter : goal.invariant-code_filters_of-loop-filter
invariant-code_filters_of-loop-filter l = record {
  all : (row : ℕ) → row < length l.segment.rows → all_hold l.code_filters.items row ≡ all_pass (value_of l.segment row) (each_says (take l.filter-index l.filters));
  any : (row : ℕ) → row < length l.segment.rows → any_holds l.code_filters.items row ≡ any_passes (value_of l.segment row) (each_says (take l.filter-index l.filters));
}
