use Rattle.std.proofs.Common.{◌<◌, ◌≤◌, ◌++◌, ℕ, List, length, string_bytes, take, ap, subst, ◌∙◌, arith}
use Rattle.std.specs.List.{flat_map, range_with_len}
use Rattle.std.proofs.lemmas.List.{length-map}
use Rattle.std.proofs.lemmas.List.FromFn.{length-range_with_len}
use Rattle.druid_stream.proofs.WriteLemmas.{any_err}
use Rattle.druid_segment_rows.specs.Rows.{Schema}
use Rattle.druid_segment_file.specs.ColumnBytes.{metric, numbers_of}
use Rattle.druid_segment_file.proofs.WriteLemmas.{up_to_then, no_parts, part_unwritten, part_unspelled, part_waits, parts_done}
use Rattle.druid_segment_file.proofs.ColumnRoomLemmas.{metric_at, some_metric}
use Rattle.druid_segment_file.proofs.columns_writer.write_metrics.Goals as goal

pub loop-place-init : goal.loop-place-init
loop-place-init g c = no_parts (g.W.Write.contents c.args.writer.now) c.args.gathered.now.items

pub returns-in_err-write_gathered-clause-err : goal.returns-in_err-write_gathered-clause-err
returns-in_err-write_gathered-clause-err g c =
    any_err c.from_residual.result _
    (part_unwritten (λ place. metric (numbers_of c.args.segment.now.rows place)) c.args.gathered.now.items (range_with_len 0 (length c.args.segment.now.fields.metrics)) c.loop-place.place (g.W.Write.contents c.args.writer.now) (g.W.Write.contents c.loop-place.writer) (g.W.Write.contents c.write_gathered.new.writer) c.loop-place.gathered.items c.loop-place.invariant c.in_err-write_gathered.ensures.err)

pub returns-in_err-append_metric-clause-err : goal.returns-in_err-append_metric-clause-err
returns-in_err-append_metric-clause-err g c =
    let rows = c.args.segment.now.rows in
    let count = length c.args.segment.now.fields.metrics in
    let places = range_with_len 0 count in
    let spell : ℕ → List ℕ = λ place. metric (numbers_of rows place) in
    let head = c.args.gathered.now.items in
    let written = g.W.Write.contents c.write_gathered.new.writer in
    let within : c.loop-place.place < count =
    omega (arith, c.loop-place-test.true, length-map c.metrics-place-end.result.now string_bytes, ap length c.metrics-place-end.ensures, ap (λ (s : Schema). length s.metrics) c.schema.ensures.value) in
    let so_far = up_to_then (g.W.Write.contents c.args.writer.now) (g.W.Write.contents c.loop-place.writer) written (head ++ flat_map spell (take c.loop-place.place places)) c.loop-place.gathered.items c.write_gathered.new.gathered.items c.loop-place.invariant c.in_ok-write_gathered.ensures.ok in
    let some = subst (λ (bytes : List _). 0 < length bytes) (metric_at rows count c.loop-place.place c.numbers.result.now within c.numbers.ensures) (some_metric c.numbers.result.now c.in_err-append_metric.ensures.some) in
    any_err c.from_residual-in_err-append_metric.result _
    (part_unspelled spell head places c.loop-place.place 0 (g.W.Write.contents c.args.writer.now) written c.write_gathered.new.gathered.items (omega (arith, within, length-range_with_len 0 count)) some so_far)

pub loop-place-preserved : goal.loop-place-preserved
loop-place-preserved g c =
    let rows = c.args.segment.now.rows in
    let count = length c.args.segment.now.fields.metrics in
    let places = range_with_len 0 count in
    let spell : ℕ → List ℕ = λ place. metric (numbers_of rows place) in
    let head = c.args.gathered.now.items in
    let written = g.W.Write.contents c.write_gathered.new.writer in
    let rest = c.write_gathered.new.gathered.items in
    let within : c.loop-place.place < count =
    omega (arith, c.loop-place-test.true, length-map c.metrics-place-end.result.now string_bytes, ap length c.metrics-place-end.ensures, ap (λ (s : Schema). length s.metrics) c.schema.ensures.value) in
    let so_far = up_to_then (g.W.Write.contents c.args.writer.now) (g.W.Write.contents c.loop-place.writer) written (head ++ flat_map spell (take c.loop-place.place places)) c.loop-place.gathered.items rest c.loop-place.invariant c.in_ok-write_gathered.ensures.ok in
    part_waits spell head places c.loop-place.place 0 (g.W.Write.contents c.args.writer.now) written rest c.append_metric.new.out.items (omega (arith, within, length-range_with_len 0 count)) (c.in_ok-append_metric.ensures.ok ∙ ap (λ (t : List _). rest ++ t) (metric_at rows count c.loop-place.place c.numbers.result.now within c.numbers.ensures)) so_far

pub returns-clause-ok : goal.returns-clause-ok
returns-clause-ok g c =
    let count = length c.args.segment.now.fields.metrics in
    let places = range_with_len 0 count in
    let past : length places ≤ c.loop-place.place =
    omega (arith, c.loop-place-test.false, length-range_with_len 0 count, length-map c.metrics-place-end.result.now string_bytes, ap length c.metrics-place-end.ensures, ap (λ (s : Schema). length s.metrics) c.schema.ensures.value) in
    parts_done (λ place. metric (numbers_of c.args.segment.now.rows place)) c.args.gathered.now.items places c.loop-place.place (g.W.Write.contents c.args.writer.now) (g.W.Write.contents c.loop-place.writer) c.loop-place.gathered.items past c.loop-place.invariant
