use Rattle.std.proofs.Common.{◌≡◌, map, take}
use Rattle.serde_json.specs.View.{view}
use Rattle.druid_filter.specs.Filters.{says}
use Rattle.druid_query.specs.Written.{filter_data}
use Rattle.druid_query_text.proofs.filter.+filter_value.Given as goal

abbrev pub invariant-filter_values-loop-filter : goal.invariant-filter_values-loop-filter
invariant-filter_values-loop-filter l = map view l.all.items ≡ map (λ f. filter_data (says f)) (take l.filter-index l.filters)
