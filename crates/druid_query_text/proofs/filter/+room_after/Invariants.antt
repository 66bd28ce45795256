use Rattle.std.proofs.Common.{◌≡◌, ◌+◌, ◌*◌, drop}
use Rattle.serde_json.specs.Data.{depth, items_depth}
use Rattle.serde_json.specs.View.{view, items_view}
use Rattle.druid_query_text.proofs.RoomLemmas.{left_by_all}
use Rattle.druid_query_text.proofs.filter.+room_after.Given as goal

abbrev pub decreases-room_after : goal.decreases-room_after
decreases-room_after l = 2 * depth (view l.value.now)

abbrev pub decreases-room_after_all : goal.decreases-room_after_all
decreases-room_after_all l = 2 * items_depth (items_view l.values.now) + 1

abbrev pub invariant-room_after_all-loop-value : goal.invariant-room_after_all-loop-value
invariant-room_after_all-loop-value l = left_by_all (items_view (drop l.value-index l.values)) l.deep l.left ≡ left_by_all (items_view l.values) l.deep l.room
