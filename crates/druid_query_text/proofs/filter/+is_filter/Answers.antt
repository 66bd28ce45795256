use Rattle.std.proofs.Common.{◌<◌, ◌≤◌, sym, ◌∙◌, arith, option_map}
use Rattle.serde_json.specs.Data.{depth, items_depth}
use Rattle.serde_json.specs.View.{view, items_view}
use Rattle.druid_filter.specs.Filters.{has_among, all_of, any_of, is_not}
use Rattle.druid_base.specs.Each.{each_of}
use Rattle.druid_base.specs.Fields.{text_or_null}
use Rattle.druid_query.specs.Filters.{filter_at, each_filter}
use Rattle.druid_query_text.specs.Levels.{selector, among, all, any, negation}
use Rattle.druid_base.proofs.EachLemmas.{all_reads}
use Rattle.druid_query_text.proofs.FilterLemmas.{within, item_depth, judged, none_judged, filters_more, filters_refused, filters_last, map_some, reported}
use Rattle.druid_query_text.specs.declared.filter.FilterLevel.TheVariants as levels
use Rattle.druid_query_text.proofs.filter.+is_filter.Goals as goal

pub are_filters-is_filter-requires : goal.are_filters-is_filter-requires
are_filters-is_filter-requires t c =
    let le : depth (view c.value-item.result) ≤ items_depth (items_view c.args.values.now) = item_depth c.args.values.now c.loop-value.value-index c.value-item.result c.loop-value-test.true c.value-item.is in
    (omega (arith, le, c.decreases), tt)

pub are_filters-returns-then-not-is_filter : goal.are_filters-returns-then-not-is_filter
are_filters-returns-then-not-is_filter t c =
    filters_refused c.args.values.now c.loop-value.value-index c.value-item.result c.loop-value-test.true c.value-item.is c.if-not-is_filter.ensures
    ∙ c.loop-value.invariant

pub are_filters-loop-value-preserved : goal.are_filters-loop-value-preserved
are_filters-loop-value-preserved t c =
    filters_more c.args.values.now c.loop-value.value-index c.value-item.result c.loop-value-test.true c.value-item.is c.if-not-is_filter.ensures
    ∙ c.loop-value.invariant

pub are_filters-returns : goal.are_filters-returns
are_filters-returns t c = filters_last c.args.values.now c.loop-value.value-index (omega (arith, c.loop-value-test.false)) ∙ c.loop-value.invariant

pub is_filter-are_filters-requires : goal.is_filter-are_filters-requires
is_filter-are_filters-requires t c =
    let below : items_depth (items_view c.in-Some-All.fields.now) < depth (view c.args.value.now) =
    within (view c.args.value.now) (all (items_view c.in-Some-All.fields.now)) (sym (reported c.in-Some-All.field-0 (levels.All c.in-Some-All.fields) (view c.args.value.now) c.in-Some-All.field-0-is c.in-Some-All.ensures)) in
    (omega (arith, below, c.decreases), tt)

pub is_filter-are_filters-requires-in-Some-Any : goal.is_filter-are_filters-requires-in-Some-Any
is_filter-are_filters-requires-in-Some-Any t c =
    let below : items_depth (items_view c.in-Some-Any.fields.now) < depth (view c.args.value.now) =
    within (view c.args.value.now) (any (items_view c.in-Some-Any.fields.now)) (sym (reported c.in-Some-Any.field-0 (levels.Any c.in-Some-Any.fields) (view c.args.value.now) c.in-Some-Any.field-0-is c.in-Some-Any.ensures)) in
    (omega (arith, below, c.decreases), tt)

pub is_filter-is_filter-requires : goal.is_filter-is_filter-requires
is_filter-is_filter-requires t c =
    let below : depth (view c.in-Some-Not.field.now) < depth (view c.args.value.now) =
    within (view c.args.value.now) (negation (view c.in-Some-Not.field.now)) (sym (reported c.in-Some-Not.field-0 (levels.Not c.in-Some-Not.field) (view c.args.value.now) c.in-Some-Not.field-0-is c.in-Some-Not.ensures)) in
    (omega (arith, below, c.decreases), tt)

pub is_filter-returns-in-None : goal.is_filter-returns-in-None
is_filter-returns-in-None t c = none_judged (view c.args.value.now) c.in-None.ensures

pub is_filter-returns-in-Some-Selector : goal.is_filter-returns-in-Some-Selector
is_filter-returns-in-Some-Selector t c =
    judged (view c.args.value.now) (selector c.in-Some-Selector._dimension.now (option_map (λ s. s.now) c.in-Some-Selector._wanted)) (reported c.in-Some-Selector.field-0 (levels.Selector c.in-Some-Selector._dimension c.in-Some-Selector._wanted) (view c.args.value.now) c.in-Some-Selector.field-0-is c.in-Some-Selector.ensures)

pub is_filter-returns-in-Some-Among : goal.is_filter-returns-in-Some-Among
is_filter-returns-in-Some-Among t c =
    let d = c.in-Some-Among._dimension.now in
    let vs = c.in-Some-Among.values.now in
    c.are_texts_or_null.ensures ∙ all_reads text_or_null vs ∙ map_some (has_among d) (each_of text_or_null (items_view vs))
    ∙ judged (view c.args.value.now) (among d (items_view vs)) (reported c.in-Some-Among.field-0 (levels.Among c.in-Some-Among._dimension c.in-Some-Among.values) (view c.args.value.now) c.in-Some-Among.field-0-is c.in-Some-Among.ensures)

pub is_filter-returns-in-Some-All : goal.is_filter-returns-in-Some-All
is_filter-returns-in-Some-All t c =
    let vs = c.in-Some-All.fields.now in
    c.are_filters.ensures ∙ map_some all_of (each_filter (items_view vs)) ∙ judged (view c.args.value.now) (all (items_view vs)) (reported c.in-Some-All.field-0 (levels.All c.in-Some-All.fields) (view c.args.value.now) c.in-Some-All.field-0-is c.in-Some-All.ensures)

pub is_filter-returns-in-Some-Any : goal.is_filter-returns-in-Some-Any
is_filter-returns-in-Some-Any t c =
    let vs = c.in-Some-Any.fields.now in
    c.are_filters-in-Some-Any.ensures ∙ map_some any_of (each_filter (items_view vs)) ∙ judged (view c.args.value.now) (any (items_view vs)) (reported c.in-Some-Any.field-0 (levels.Any c.in-Some-Any.fields) (view c.args.value.now) c.in-Some-Any.field-0-is c.in-Some-Any.ensures)

pub is_filter-returns-in-Some-Not : goal.is_filter-returns-in-Some-Not
is_filter-returns-in-Some-Not t c =
    let v = c.in-Some-Not.field.now in
    c.is_filter.ensures ∙ map_some is_not (filter_at (view v)) ∙ judged (view c.args.value.now) (negation (view v)) (reported c.in-Some-Not.field-0 (levels.Not c.in-Some-Not.field) (view c.args.value.now) c.in-Some-Not.field-0-is c.in-Some-Not.ensures)
