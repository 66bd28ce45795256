use Rattle.std.proofs.Common.{◌≡◌, drop}
use Rattle.druid_partial_scan.specs.CodeFilters.{all_hold, any_holds}
use Rattle.druid_partial_scan.proofs.code_filter.+holds.Given as goal

abbrev pub invariant-all_hold-loop-code_filter : goal.invariant-all_hold-loop-code_filter
invariant-all_hold-loop-code_filter l = all_hold (drop l.code_filter-index l.code_filters) l.row ≡ all_hold l.code_filters l.row

abbrev pub invariant-any_holds-loop-code_filter : goal.invariant-any_holds-loop-code_filter
invariant-any_holds-loop-code_filter l = any_holds (drop l.code_filter-index l.code_filters) l.row ≡ any_holds l.code_filters l.row
