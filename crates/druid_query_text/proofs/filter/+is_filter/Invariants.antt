use Rattle.std.proofs.Common.{◌≡◌, ◌+◌, ◌*◌, drop, is_some}
use Rattle.serde_json.specs.Data.{depth, items_depth}
use Rattle.serde_json.specs.View.{view, items_view}
use Rattle.druid_query.specs.Filters.{each_filter}
use Rattle.druid_query_text.proofs.filter.+is_filter.Given as goal

abbrev pub decreases-is_filter : goal.decreases-is_filter
decreases-is_filter l = 2 * depth (view l.value.now)

abbrev pub decreases-are_filters : goal.decreases-are_filters
decreases-are_filters l = 2 * items_depth (items_view l.values.now) + 1

abbrev pub invariant-are_filters-loop-value : goal.invariant-are_filters-loop-value
invariant-are_filters-loop-value l = is_some (each_filter (items_view (drop l.value-index l.values))) ≡ is_some (each_filter (items_view l.values))
