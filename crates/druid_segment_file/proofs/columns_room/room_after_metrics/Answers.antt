use Rattle.std.proofs.Common.{◌<◌, ◌≤◌, length, string_bytes, sym, ap, arith}
use Rattle.std.specs.List.{flat_map, range_with_len}
use Rattle.std.proofs.lemmas.List.{length-map, take_all}
use Rattle.std.proofs.lemmas.List.FromFn.{length-range_with_len}
use Rattle.druid_segment_rows.specs.Rows.{Schema}
use Rattle.druid_segment_file.specs.ColumnBytes.{metric, numbers_of}
use Rattle.druid_segment_file.proofs.ColumnRoomLemmas.{none_iff, metric_at, part_too_long, part_fits}
use Rattle.druid_segment_file.proofs.columns_room.room_after_metrics.Goals as goal

pub returns-in_err-room : goal.returns-in_err-room
returns-in_err-room c =
    let rows = c.args.segment.now.rows in
    let count = length c.args.segment.now.fields.metrics in
    let places = range_with_len 0 count in
    let within : c.loop-place.place < count =
    omega (arith, c.loop-place-test.true, length-map c.metrics-place-end.result.now string_bytes, ap length c.metrics-place-end.ensures, ap (λ (s : Schema). length s.metrics) c.schema.ensures.value) in
    none_iff c.from_residual.result _ _ c.from_residual.ensures
    (part_too_long (λ place. metric (numbers_of rows place)) places c.loop-place.place 0 (length (metric c.numbers.result.now)) c.loop-place.room c.args.room (omega (arith, within, length-range_with_len 0 count)) (sym (ap length (metric_at rows count c.loop-place.place c.numbers.result.now within c.numbers.ensures))) c.loop-place.invariant (λ fits. c.in_err-room.ensures fits))

pub loop-place-preserved : goal.loop-place-preserved
loop-place-preserved c =
    let rows = c.args.segment.now.rows in
    let count = length c.args.segment.now.fields.metrics in
    let places = range_with_len 0 count in
    let within : c.loop-place.place < count =
    omega (arith, c.loop-place-test.true, length-map c.metrics-place-end.result.now string_bytes, ap length c.metrics-place-end.ensures, ap (λ (s : Schema). length s.metrics) c.schema.ensures.value) in
    part_fits (λ place. metric (numbers_of rows place)) places c.loop-place.place 0 (length (metric c.numbers.result.now)) c.loop-place.room c.args.room c.in_ok-room.room (omega (arith, within, length-range_with_len 0 count)) (sym (ap length (metric_at rows count c.loop-place.place c.numbers.result.now within c.numbers.ensures))) c.loop-place.invariant c.in_ok-room.ensures.0 c.in_ok-room.ensures.1

pub returns : goal.returns
returns c =
    let rows = c.args.segment.now.rows in
    let count = length c.args.segment.now.fields.metrics in
    let places = range_with_len 0 count in
    let past : length places ≤ c.loop-place.place =
    omega (arith, c.loop-place-test.false, length-range_with_len 0 count, length-map c.metrics-place-end.result.now string_bytes, ap length c.metrics-place-end.ensures, ap (λ (s : Schema). length s.metrics) c.schema.ensures.value) in
    let all = ap (λ ps. length (flat_map (λ place. metric (numbers_of rows place)) ps)) (take_all c.loop-place.place places past) in
    (omega (arith, all, c.loop-place.invariant), omega (arith, all, c.loop-place.invariant))
