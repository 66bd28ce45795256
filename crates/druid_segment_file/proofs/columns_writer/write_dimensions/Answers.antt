use Rattle.std.proofs.Common.{◌<◌, ◌≤◌, ◌++◌, List, length, string_bytes, take, get_or, ap, ◌∙◌, arith}
use Rattle.std.specs.List.{flat_map}
use Rattle.std.proofs.lemmas.List.{length-map}
use Rattle.druid_stream.proofs.WriteLemmas.{any_err}
use Rattle.druid_segment_rows.specs.Rows.{Schema}
use Rattle.druid_segment_file.specs.ColumnBytes.{no_values, dimension}
use Rattle.druid_segment_file.proofs.WriteLemmas.{up_to_then, no_parts, part_unwritten, part_unspelled, part_waits, parts_done}
use Rattle.druid_segment_file.proofs.ColumnRoomLemmas.{length_dimension}
use Rattle.druid_segment_file.proofs.ColumnWriteLemmas.{same_coded, texts_short}
use Rattle.druid_segment_file.proofs.columns_writer.write_dimensions.Goals as goal

pub append_dimension-requires : goal.append_dimension-requires
append_dimension-requires g c =
    texts_short c.args.segment.now c.loop-place.place c.values.result.now c.schema.ensures.valid c.values.ensures

pub loop-place-init : goal.loop-place-init
loop-place-init g c = λ dimensions coded. no_parts (g.W.Write.contents c.args.writer.now) c.args.gathered.now.items

pub returns-in_err-write_gathered-clause-err : goal.returns-in_err-write_gathered-clause-err
returns-in_err-write_gathered-clause-err g c = λ dimensions coded.
    any_err c.from_residual.result _
    (part_unwritten dimension c.args.gathered.now.items dimensions c.loop-place.place (g.W.Write.contents c.args.writer.now) (g.W.Write.contents c.loop-place.writer) (g.W.Write.contents c.write_gathered.new.writer) c.loop-place.gathered.items (c.loop-place.invariant dimensions coded) c.in_err-write_gathered.ensures.err)

pub returns-in_err-append_dimension-clause-err : goal.returns-in_err-append_dimension-clause-err
returns-in_err-append_dimension-clause-err g c = λ dimensions coded.
    let head = c.args.gathered.now.items in
    let written = g.W.Write.contents c.write_gathered.new.writer in
    let within : c.loop-place.place < length dimensions =
    omega (arith, c.loop-place-test.true, length-map c.dimensions-place-end.result.now string_bytes, ap length c.dimensions-place-end.ensures, ap (λ (s : Schema). length s.dimensions) c.schema.ensures.value, coded.long) in
    let so_far = up_to_then (g.W.Write.contents c.args.writer.now) (g.W.Write.contents c.loop-place.writer) written (head ++ flat_map dimension (take c.loop-place.place dimensions)) c.loop-place.gathered.items c.write_gathered.new.gathered.items (c.loop-place.invariant dimensions coded) c.in_ok-write_gathered.ensures.ok in
    any_err c.from_residual-in_err-append_dimension.result _
    (part_unspelled dimension head dimensions c.loop-place.place no_values (g.W.Write.contents c.args.writer.now) written c.write_gathered.new.gathered.items within (omega (arith, length_dimension (get_or dimensions c.loop-place.place no_values))) so_far)

pub loop-place-preserved : goal.loop-place-preserved
loop-place-preserved g c = λ dimensions coded.
    let head = c.args.gathered.now.items in
    let written = g.W.Write.contents c.write_gathered.new.writer in
    let rest = c.write_gathered.new.gathered.items in
    let within : c.loop-place.place < length dimensions =
    omega (arith, c.loop-place-test.true, length-map c.dimensions-place-end.result.now string_bytes, ap length c.dimensions-place-end.ensures, ap (λ (s : Schema). length s.dimensions) c.schema.ensures.value, coded.long) in
    let so_far = up_to_then (g.W.Write.contents c.args.writer.now) (g.W.Write.contents c.loop-place.writer) written (head ++ flat_map dimension (take c.loop-place.place dimensions)) c.loop-place.gathered.items rest (c.loop-place.invariant dimensions coded) c.in_ok-write_gathered.ensures.ok in
    let same = same_coded c.args.segment.now dimensions c.loop-place.place c.values.result.now c.codes.result.now coded within c.values.ensures c.codes.ensures in
    part_waits dimension head dimensions c.loop-place.place no_values (g.W.Write.contents c.args.writer.now) written rest c.append_dimension.new.out.items within (c.in_ok-append_dimension.ensures ∙ ap (λ (t : List _). rest ++ t) same) so_far

pub returns-clause-ok : goal.returns-clause-ok
returns-clause-ok g c = λ dimensions coded.
    let past : length dimensions ≤ c.loop-place.place =
    omega (arith, c.loop-place-test.false, length-map c.dimensions-place-end.result.now string_bytes, ap length c.dimensions-place-end.ensures, ap (λ (s : Schema). length s.dimensions) c.schema.ensures.value, coded.long) in
    parts_done dimension c.args.gathered.now.items dimensions c.loop-place.place (g.W.Write.contents c.args.writer.now) (g.W.Write.contents c.loop-place.writer) c.loop-place.gathered.items past (c.loop-place.invariant dimensions coded)
