use Rattle.std.proofs.Common.{◌+◌, ◌<◌, ◌≤◌, Some, sym, ap, ◌∙◌, arith, option_map, map, drop}
use Rattle.serde_json.specs.Data.{depth, items_depth}
use Rattle.serde_json.specs.View.{view, items_view}
use Rattle.druid_filter.specs.Filters.{says, all_of, any_of, is_not}
use Rattle.druid_query.specs.Filters.{each_filter}
use Rattle.druid_query_text.specs.Levels.{all, any, negation}
use Rattle.druid_query_text.specs.declared.filter.FilterLevel.TheVariants as levels
use Rattle.druid_query_text.proofs.FilterLemmas.{within, item_depth, reported, joined_more, joined_last, joined}
use Rattle.druid_query_text.proofs.InsideLemmas.{no_level, among_reads, all_reads, any_reads, negation_reads, item_reads}
use Rattle.druid_query_text.proofs.RoomLemmas.{spoken, selected, wanted, says_all, says_any, says_not}
use Rattle.druid_query_text.proofs.filter.+filter_of.Goals as goal

pub filter_of-filters_of-requires : goal.filter_of-filters_of-requires
filter_of-filters_of-requires t c =
    let below : items_depth (items_view c.in-Some-All.fields.now) < depth (view c.args.value.now) = within (view c.args.value.now) (all (items_view c.in-Some-All.fields.now)) (sym (reported c.in-Some-All.field-0 (levels.All c.in-Some-All.fields) (view c.args.value.now) c.in-Some-All.field-0-is c.in-Some-All.ensures)) in
    (omega (arith, below, c.decreases), all_reads (view c.args.value.now) (items_view c.in-Some-All.fields.now) (reported c.in-Some-All.field-0 (levels.All c.in-Some-All.fields) (view c.args.value.now) c.in-Some-All.field-0-is c.in-Some-All.ensures) c.requires)

pub filter_of-filters_of-requires-in-Some-Any : goal.filter_of-filters_of-requires-in-Some-Any
filter_of-filters_of-requires-in-Some-Any t c =
    let below : items_depth (items_view c.in-Some-Any.fields.now) < depth (view c.args.value.now) = within (view c.args.value.now) (any (items_view c.in-Some-Any.fields.now)) (sym (reported c.in-Some-Any.field-0 (levels.Any c.in-Some-Any.fields) (view c.args.value.now) c.in-Some-Any.field-0-is c.in-Some-Any.ensures)) in
    (omega (arith, below, c.decreases), any_reads (view c.args.value.now) (items_view c.in-Some-Any.fields.now) (reported c.in-Some-Any.field-0 (levels.Any c.in-Some-Any.fields) (view c.args.value.now) c.in-Some-Any.field-0-is c.in-Some-Any.ensures) c.requires)

pub filter_of-filter_of-requires : goal.filter_of-filter_of-requires
filter_of-filter_of-requires t c =
    let below : depth (view c.in-Some-Not.field.now) < depth (view c.args.value.now) = within (view c.args.value.now) (negation (view c.in-Some-Not.field.now)) (sym (reported c.in-Some-Not.field-0 (levels.Not c.in-Some-Not.field) (view c.args.value.now) c.in-Some-Not.field-0-is c.in-Some-Not.ensures)) in
    (omega (arith, below, c.decreases), negation_reads (view c.args.value.now) (view c.in-Some-Not.field.now) (reported c.in-Some-Not.field-0 (levels.Not c.in-Some-Not.field) (view c.args.value.now) c.in-Some-Not.field-0-is c.in-Some-Not.ensures) c.requires)

pub filter_of-returns-in-Some-Selector : goal.filter_of-returns-in-Some-Selector
filter_of-returns-in-Some-Selector t c = selected (view c.args.value.now) c.in-Some-Selector.dimension.now (option_map (λ s. s.now) c.in-Some-Selector.wanted) c.selector_of.result (reported c.in-Some-Selector.field-0 (levels.Selector c.in-Some-Selector.dimension c.in-Some-Selector.wanted) (view c.args.value.now) c.in-Some-Selector.field-0-is c.in-Some-Selector.ensures) c.selector_of.ensures

pub filter_of-returns-in-Some-Among : goal.filter_of-returns-in-Some-Among
filter_of-returns-in-Some-Among t c = wanted (view c.args.value.now) c.in-Some-Among.dimension.now (items_view c.in-Some-Among.values.now) c.among_of.result (reported c.in-Some-Among.field-0 (levels.Among c.in-Some-Among.dimension c.in-Some-Among.values) (view c.args.value.now) c.in-Some-Among.field-0-is c.in-Some-Among.ensures) c.among_of.ensures

pub filter_of-returns-in_ok-filters_of-in-Some-All : goal.filter_of-returns-in_ok-filters_of-in-Some-All
filter_of-returns-in_ok-filters_of-in-Some-All t c =
    sym (spoken (view c.args.value.now) (all (items_view c.in-Some-All.fields.now)) (reported c.in-Some-All.field-0 (levels.All c.in-Some-All.fields) (view c.args.value.now) c.in-Some-All.field-0-is c.in-Some-All.ensures)) ∙ ap (option_map all_of) c.in_ok-filters_of-in-Some-All.ensures ∙ ap Some (sym (says_all c.in_ok-filters_of-in-Some-All.field-0))

pub filter_of-returns-in_ok-filters_of-in-Some-Any : goal.filter_of-returns-in_ok-filters_of-in-Some-Any
filter_of-returns-in_ok-filters_of-in-Some-Any t c =
    sym (spoken (view c.args.value.now) (any (items_view c.in-Some-Any.fields.now)) (reported c.in-Some-Any.field-0 (levels.Any c.in-Some-Any.fields) (view c.args.value.now) c.in-Some-Any.field-0-is c.in-Some-Any.ensures)) ∙ ap (option_map any_of) c.in_ok-filters_of-in-Some-Any.ensures ∙ ap Some (sym (says_any c.in_ok-filters_of-in-Some-Any.field-0))

pub filter_of-returns-in_ok-new-in-Some-Not : goal.filter_of-returns-in_ok-new-in-Some-Not
filter_of-returns-in_ok-new-in-Some-Not t c =
    sym (spoken (view c.args.value.now) (negation (view c.in-Some-Not.field.now)) (reported c.in-Some-Not.field-0 (levels.Not c.in-Some-Not.field) (view c.args.value.now) c.in-Some-Not.field-0-is c.in-Some-Not.ensures)) ∙ ap (option_map is_not) (c.in_ok-filter_of-in-Some-Not.ensures ∙ ap (λ f. Some (says f)) (sym c.in_ok-new-in-Some-Not.ensures.ok)) ∙ ap Some (sym (says_not c.in_ok-new-in-Some-Not.field-0))

pub filters_of-filter_of-requires : goal.filters_of-filter_of-requires
filters_of-filter_of-requires t c =
    let le : depth (view c.value-item.result) ≤ items_depth (items_view c.args.values.now) = item_depth c.args.values.now c.loop-value.value-index c.value-item.result c.loop-value-test.true c.value-item.is in (
      omega (arith, le, c.decreases),
      item_reads (map says c.loop-value.filters.items) c.args.values.now c.loop-value.value-index c.value-item.result c.loop-value-test.true c.value-item.is c.loop-value.invariant c.requires,
    )

pub filters_of-loop-value-preserved : goal.filters_of-loop-value-preserved
filters_of-loop-value-preserved t c =
    ap (λ fs. joined (map says fs) (each_filter (items_view (drop (c.loop-value.value-index + 1) c.args.values.now)))) c.in_ok-push.ensures.items
    ∙ joined_more c.loop-value.filters.items c.in_ok-filter_of.field-0 c.args.values.now c.loop-value.value-index c.value-item.result c.loop-value-test.true c.value-item.is c.in_ok-filter_of.ensures
    ∙ c.loop-value.invariant

pub filters_of-returns : goal.filters_of-returns
filters_of-returns t c =
    sym c.loop-value.invariant ∙ joined_last c.loop-value.filters.items c.args.values.now c.loop-value.value-index (omega (arith, c.loop-value-test.false))

pub filter_of-unreachable-requires : goal.filter_of-unreachable-requires
filter_of-unreachable-requires t c = no_level (view c.args.value.now) c.in-None.ensures c.requires

pub filter_of-among_of-requires : goal.filter_of-among_of-requires
filter_of-among_of-requires t c =
    among_reads (view c.args.value.now) c.in-Some-Among.dimension.now (items_view c.in-Some-Among.values.now) (reported c.in-Some-Among.field-0 (levels.Among c.in-Some-Among.dimension c.in-Some-Among.values) (view c.args.value.now) c.in-Some-Among.field-0-is c.in-Some-Among.ensures) c.requires
