use Rattle.std.proofs.Common.{◌<◌, ◌≤◌, sym, ap, ◌∙◌, arith, option_map}
use Rattle.serde_json.specs.Data.{depth, items_depth}
use Rattle.serde_json.specs.View.{view, items_view}
use Rattle.druid_query.specs.Filters.{filter_at, each_filter}
use Rattle.druid_query_text.specs.Levels.{selector, among, all, any, negation, leaf}
use Rattle.druid_query_text.specs.declared.filter.FilterLevel.TheVariants as levels
use Rattle.druid_query_text.proofs.FilterLemmas.{within, item_depth, reported}
use Rattle.druid_query_text.proofs.RoomLemmas.{left_by, unspoken, spoken, no_level_left, no_room_left, left_selector, left_among, left_all, left_any, left_not, left_more, left_none, left_last, is_zero, is_some_number}
use Rattle.druid_query_text.proofs.filter.+room_after.Goals as goal

pub room_after-returns-then-deep-eq0 : goal.room_after-returns-then-deep-eq0
room_after-returns-then-deep-eq0 t c = no_level_left (filter_at (view c.args.value.now)) c.args.deep c.args.room (is_zero c.args.deep c.if-deep-eq0.true)

pub room_after-returns-then-room-eq0 : goal.room_after-returns-then-room-eq0
room_after-returns-then-room-eq0 t c = no_room_left (filter_at (view c.args.value.now)) c.args.deep c.args.room (is_zero c.args.room c.if-room-eq0.true)

pub room_after-room_after_all-requires : goal.room_after-room_after_all-requires
room_after-room_after_all-requires t c =
    let below : items_depth (items_view c.in-Some-All.fields.now) < depth (view c.args.value.now) = within (view c.args.value.now) (all (items_view c.in-Some-All.fields.now)) (sym (reported c.in-Some-All.field-0 (levels.All c.in-Some-All.fields) (view c.args.value.now) c.in-Some-All.field-0-is c.in-Some-All.ensures)) in
    (omega (arith, below, c.decreases), tt)

pub room_after-room_after_all-requires-in-Some-Any : goal.room_after-room_after_all-requires-in-Some-Any
room_after-room_after_all-requires-in-Some-Any t c =
    let below : items_depth (items_view c.in-Some-Any.fields.now) < depth (view c.args.value.now) = within (view c.args.value.now) (any (items_view c.in-Some-Any.fields.now)) (sym (reported c.in-Some-Any.field-0 (levels.Any c.in-Some-Any.fields) (view c.args.value.now) c.in-Some-Any.field-0-is c.in-Some-Any.ensures)) in
    (omega (arith, below, c.decreases), tt)

pub room_after-room_after-requires : goal.room_after-room_after-requires
room_after-room_after-requires t c =
    let below : depth (view c.in-Some-Not.field.now) < depth (view c.args.value.now) = within (view c.args.value.now) (negation (view c.in-Some-Not.field.now)) (sym (reported c.in-Some-Not.field-0 (levels.Not c.in-Some-Not.field) (view c.args.value.now) c.in-Some-Not.field-0-is c.in-Some-Not.ensures)) in
    (omega (arith, below, c.decreases), tt)

pub room_after-returns-in-None : goal.room_after-returns-in-None
room_after-returns-in-None t c = ap (λ o. left_by o c.args.deep c.args.room) (unspoken (view c.args.value.now) c.in-None.ensures)

pub room_after-returns-in-Some-Selector : goal.room_after-returns-in-Some-Selector
room_after-returns-in-Some-Selector t c =
    c.leaf.ensures ∙ ap (λ b. leaf b c.args.room) c.fits_selector.ensures
    ∙ left_selector c.in-Some-Selector.dimension.now (option_map (λ s. s.now) c.in-Some-Selector.wanted) c.args.deep c.args.room (is_some_number c.args.deep c.if-deep-eq0.false) (is_some_number c.args.room c.if-room-eq0.false)
    ∙ ap (λ o. left_by o c.args.deep c.args.room) (spoken (view c.args.value.now) (selector c.in-Some-Selector.dimension.now (option_map (λ s. s.now) c.in-Some-Selector.wanted)) (reported c.in-Some-Selector.field-0 (levels.Selector c.in-Some-Selector.dimension c.in-Some-Selector.wanted) (view c.args.value.now) c.in-Some-Selector.field-0-is c.in-Some-Selector.ensures))

pub room_after-returns-in-Some-Among : goal.room_after-returns-in-Some-Among
room_after-returns-in-Some-Among t c =
    c.leaf-in-Some-Among.ensures ∙ ap (λ b. leaf b c.args.room) c.fits_among.ensures
    ∙ left_among c.in-Some-Among.dimension.now (items_view c.in-Some-Among.values.now) c.args.deep c.args.room (is_some_number c.args.deep c.if-deep-eq0.false) (is_some_number c.args.room c.if-room-eq0.false)
    ∙ ap (λ o. left_by o c.args.deep c.args.room) (spoken (view c.args.value.now) (among c.in-Some-Among.dimension.now (items_view c.in-Some-Among.values.now)) (reported c.in-Some-Among.field-0 (levels.Among c.in-Some-Among.dimension c.in-Some-Among.values) (view c.args.value.now) c.in-Some-Among.field-0-is c.in-Some-Among.ensures))

pub room_after-returns-in-Some-All : goal.room_after-returns-in-Some-All
room_after-returns-in-Some-All t c =
    c.room_after_all.ensures ∙ left_all (each_filter (items_view c.in-Some-All.fields.now)) c.args.deep c.args.room (is_some_number c.args.deep c.if-deep-eq0.false) (is_some_number c.args.room c.if-room-eq0.false)
    ∙ ap (λ o. left_by o c.args.deep c.args.room) (spoken (view c.args.value.now) (all (items_view c.in-Some-All.fields.now)) (reported c.in-Some-All.field-0 (levels.All c.in-Some-All.fields) (view c.args.value.now) c.in-Some-All.field-0-is c.in-Some-All.ensures))

pub room_after-returns-in-Some-Any : goal.room_after-returns-in-Some-Any
room_after-returns-in-Some-Any t c =
    c.room_after_all-in-Some-Any.ensures ∙ left_any (each_filter (items_view c.in-Some-Any.fields.now)) c.args.deep c.args.room (is_some_number c.args.deep c.if-deep-eq0.false) (is_some_number c.args.room c.if-room-eq0.false)
    ∙ ap (λ o. left_by o c.args.deep c.args.room) (spoken (view c.args.value.now) (any (items_view c.in-Some-Any.fields.now)) (reported c.in-Some-Any.field-0 (levels.Any c.in-Some-Any.fields) (view c.args.value.now) c.in-Some-Any.field-0-is c.in-Some-Any.ensures))

pub room_after-returns-in-Some-Not : goal.room_after-returns-in-Some-Not
room_after-returns-in-Some-Not t c =
    c.room_after.ensures ∙ left_not (filter_at (view c.in-Some-Not.field.now)) c.args.deep c.args.room (is_some_number c.args.deep c.if-deep-eq0.false) (is_some_number c.args.room c.if-room-eq0.false)
    ∙ ap (λ o. left_by o c.args.deep c.args.room) (spoken (view c.args.value.now) (negation (view c.in-Some-Not.field.now)) (reported c.in-Some-Not.field-0 (levels.Not c.in-Some-Not.field) (view c.args.value.now) c.in-Some-Not.field-0-is c.in-Some-Not.ensures))

pub room_after_all-room_after-requires : goal.room_after_all-room_after-requires
room_after_all-room_after-requires t c =
    let le : depth (view c.value-item.result) ≤ items_depth (items_view c.args.values.now) = item_depth c.args.values.now c.loop-value.value-index c.value-item.result c.loop-value-test.true c.value-item.is in
    (omega (arith, le, c.decreases), tt)

pub room_after_all-returns-in-None : goal.room_after_all-returns-in-None
room_after_all-returns-in-None t c =
    left_none c.args.values.now c.loop-value.value-index c.value-item.result c.args.deep c.loop-value.left c.loop-value-test.true c.value-item.is c.in-None.ensures
    ∙ c.loop-value.invariant

pub room_after_all-loop-value-preserved : goal.room_after_all-loop-value-preserved
room_after_all-loop-value-preserved t c =
    left_more c.args.values.now c.loop-value.value-index c.value-item.result c.args.deep c.loop-value.left c.in-Some.rest c.loop-value-test.true c.value-item.is c.in-Some.ensures
    ∙ c.loop-value.invariant

pub room_after_all-returns : goal.room_after_all-returns
room_after_all-returns t c =
    left_last c.args.values.now c.loop-value.value-index c.args.deep c.loop-value.left (omega (arith, c.loop-value-test.false)) ∙ c.loop-value.invariant
