use Rattle.std.proofs.Common.{◌≡◌, ◌+◌, ◌*◌, drop, map}
use Rattle.serde_json.specs.Data.{depth, items_depth}
use Rattle.serde_json.specs.View.{view, items_view}
use Rattle.druid_filter.specs.Filters.{says}
use Rattle.druid_query.specs.Filters.{each_filter}
use Rattle.druid_query_text.proofs.FilterLemmas.{joined}
use Rattle.druid_query_text.proofs.filter.+filter_of.Given as goal

abbrev pub decreases-filter_of : goal.decreases-filter_of
decreases-filter_of l = 2 * depth (view l.value.now)

abbrev pub decreases-filters_of : goal.decreases-filters_of
decreases-filters_of l = 2 * items_depth (items_view l.values.now) + 1

abbrev pub invariant-filters_of-loop-value : goal.invariant-filters_of-loop-value
invariant-filters_of-loop-value l = joined (map says l.filters.items) (each_filter (items_view (drop l.value-index l.values))) ≡ each_filter (items_view l.values)
