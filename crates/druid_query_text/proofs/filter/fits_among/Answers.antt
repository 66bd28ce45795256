use Rattle.std.proofs.Common.{sym, ◌∙◌}
use Rattle.serde_json.specs.View.{items_view}
use Rattle.druid_query_text.proofs.RoomLemmas.{among_fits, among_label, among_long}
use Rattle.druid_query_text.proofs.filter.fits_among.Goals as goal

pub returns-then-not-is_label : goal.returns-then-not-is_label
returns-then-not-is_label c = among_label c.args.dimension.now (items_view c.args.values.now) (sym c.if-not-is_label.ensures)

pub returns-then-not-are_few : goal.returns-then-not-are_few
returns-then-not-are_few c = among_long c.args.dimension.now c.args.values.now (sym c.if-not-are_few.ensures)

pub returns : goal.returns
returns c = c.are_short.ensures ∙ among_fits c.args.dimension.now c.args.values.now (sym c.if-not-is_label.ensures) (sym c.if-not-are_few.ensures)
