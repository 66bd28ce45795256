use Rattle.std.proofs.Common.{◌+◌, ◌*◌, length, arith}
use Rattle.std.specs.List.{flat_map, range_with_len}
use Rattle.druid_segment_rows.specs.Segment.{max_text, head_length}
use Rattle.druid_segment_file.specs.ColumnBytes.{dimension, metric, numbers_of, column_spelling}
use Rattle.druid_segment_file.proofs.ColumnRoomLemmas.{none_iff, some_iff_moved, length_column_spelling}
use Rattle.druid_segment_file.proofs.columns_room.room_left.Goals as goal

pub returns-in_err-room : goal.returns-in_err-room
returns-in_err-room c = λ dimensions coded.
    let whole = length_column_spelling c.args.segment.now dimensions in
    none_iff c.from_residual.result _ _ c.from_residual.ensures (λ fits. c.in_err-room.ensures (omega (arith, whole, fits, c.room_after_head.ensures.room, c.len.ensures.value)))

pub returns-in_err-room_after_dimensions : goal.returns-in_err-room_after_dimensions
returns-in_err-room_after_dimensions c = λ dimensions coded.
    let whole = length_column_spelling c.args.segment.now dimensions in
    none_iff c.from_residual-in_err-room_after_dimensions.result _ _ c.from_residual-in_err-room_after_dimensions.ensures (λ fits. c.in_err-room_after_dimensions.ensures dimensions coded (omega (arith, whole, fits, c.room_after_head.ensures.room, c.room_after_head.ensures.head, c.len.ensures.value, c.in_ok-room.ensures.0, c.in_ok-room.ensures.1)))

pub returns : goal.returns
returns c = λ dimensions coded.
    let segment = c.args.segment.now in
    let whole = length_column_spelling segment dimensions in
    let rest = c.in_ok-room_after_dimensions.ensures dimensions coded in
    let metrics = length (flat_map (λ place. metric (numbers_of segment.rows place)) (range_with_len 0 (length segment.fields.metrics))) in
    let before = head_length segment.descriptor segment.fields + 8 * length segment.rows + length (flat_map dimension dimensions) in
    some_iff_moved c.room_after_metrics.result before metrics c.in_ok-room_after_dimensions.field-0 (length (column_spelling segment dimensions)) max_text (omega (arith, whole))
    (omega (arith, c.room_after_head.ensures.room, c.room_after_head.ensures.head, c.len.ensures.value, c.in_ok-room.ensures.0, c.in_ok-room.ensures.1, rest.0, rest.1)) c.room_after_metrics.ensures
