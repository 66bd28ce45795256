use Rattle.std.proofs.Common.{◌≡◌, drop}
use Rattle.druid_filter.specs.Filters.{all_pass, any_passes, value_in, each_says}
use Rattle.druid_segment_rows.proofs.filter.+matches.Given as goal

abbrev pub invariant-matches_all-loop-filter : goal.invariant-matches_all-loop-filter
invariant-matches_all-loop-filter l =
    all_pass (value_in l.schema.dimensions l.row.dimensions) (each_says (drop l.filter-index l.filters))
    ≡ all_pass (value_in l.schema.dimensions l.row.dimensions) (each_says l.filters)

abbrev pub invariant-matches_any-loop-filter : goal.invariant-matches_any-loop-filter
invariant-matches_any-loop-filter l =
    any_passes (value_in l.schema.dimensions l.row.dimensions) (each_says (drop l.filter-index l.filters))
    ≡ any_passes (value_in l.schema.dimensions l.row.dimensions) (each_says l.filters)
