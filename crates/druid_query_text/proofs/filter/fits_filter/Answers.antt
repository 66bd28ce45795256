use Rattle.std.proofs.Common.{is_some, ap, ◌∙◌}
use Rattle.serde_json.specs.View.{view}
use Rattle.druid_query.specs.Filters.{filter_at}
use Rattle.druid_query_text.proofs.RoomLemmas.{fits_by_room}
use Rattle.druid_query_text.proofs.filter.fits_filter.Goals as goal

pub returns : goal.returns
returns c = c.is_some.ensures ∙ ap is_some c.room_after.ensures ∙ fits_by_room (filter_at (view c.args.value.now))
