use Rattle.std.proofs.Common.{length, string_bytes, ap, arith}
use Rattle.std.proofs.lemmas.List.{length-map}
use Rattle.druid_segment_rows.specs.Rows.{Schema}
use Rattle.druid_segment_file.proofs.ColumnWriteLemmas.{none_coded, one_coded, all_coded}
use Rattle.druid_segment_file.proofs.columns_writer.read_dimensions.Goals as goal

pub loop-place-init : goal.loop-place-init
loop-place-init c = none_coded c.args.segment.now

pub loop-place-preserved : goal.loop-place-preserved
loop-place-preserved c =
    one_coded c.args.segment.now c.loop-place.place c.values.result.now c.codes.result.now c.loop-place.invariant c.values.ensures c.codes.ensures

pub returns : goal.returns
returns c =
    all_coded c.args.segment.now c.loop-place.place
    (omega (arith, c.loop-place-test.false, c.loop-place.auto.place-end, length-map c.dimensions-place-end.result.now string_bytes, ap length c.dimensions-place-end.ensures, ap (λ (s : Schema). length s.dimensions) c.schema.ensures.value)) c.loop-place.invariant
