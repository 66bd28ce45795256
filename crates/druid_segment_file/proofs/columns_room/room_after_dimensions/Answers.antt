use Rattle.std.proofs.Common.{◌<◌, length, string_bytes, ap, arith}
use Rattle.std.proofs.lemmas.List.{length-map}
use Rattle.druid_segment_rows.specs.Rows.{Schema}
use Rattle.druid_segment_file.specs.ColumnBytes.{no_values, dimension}
use Rattle.druid_segment_file.proofs.ColumnRoomLemmas.{none_iff, length_coded, part_too_long, part_fits}
use Rattle.druid_segment_file.proofs.columns_room.room_after_dimensions.Goals as goal

pub returns-in_err-room : goal.returns-in_err-room
returns-in_err-room c = λ dimensions coded.
    let names = c.dimensions-place-end.result.now in
    let within : c.loop-place.place < length dimensions =
    omega (arith, c.loop-place-test.true, length-map names string_bytes, ap length c.dimensions-place-end.ensures, ap (λ (s : Schema). length s.dimensions) c.schema.ensures.value, coded.long) in
    let long = length_coded c.args.segment.now dimensions c.loop-place.place c.values.result.now coded within c.values.ensures in
    none_iff c.from_residual.result _ _ c.from_residual.ensures (part_too_long dimension dimensions c.loop-place.place no_values _ c.loop-place.room c.args.room within long (c.loop-place.invariant dimensions coded) (λ fits. c.in_err-room.ensures (omega (arith, c.len.ensures.value, fits))))

pub loop-place-preserved : goal.loop-place-preserved
loop-place-preserved c = λ dimensions coded.
    let names = c.dimensions-place-end.result.now in
    let within : c.loop-place.place < length dimensions =
    omega (arith, c.loop-place-test.true, length-map names string_bytes, ap length c.dimensions-place-end.ensures, ap (λ (s : Schema). length s.dimensions) c.schema.ensures.value, coded.long) in
    let long = length_coded c.args.segment.now dimensions c.loop-place.place c.values.result.now coded within c.values.ensures in
    part_fits dimension dimensions c.loop-place.place no_values _ c.loop-place.room c.args.room c.in_ok-room.room within long (c.loop-place.invariant dimensions coded) (omega (arith, c.len.ensures.value, c.in_ok-room.ensures.0)) (omega (arith, c.len.ensures.value, c.in_ok-room.ensures.1))
