use Rattle.std.proofs.Common.{◌++◌, take, subst, arith}
use Rattle.std.specs.List.{flat_map}
use Rattle.std.specs.Io.KnownBytes.{Appends}
use Rattle.std.proofs.lemmas.Result.{on_ok_weaker, on_err_weaker}
use Rattle.druid_segment_file.specs.ByteParts.{row}
use Rattle.druid_segment_file.specs.Heading.{heading}
use Rattle.druid_stream.specs.Fronts.{AppendsFront}
use Rattle.druid_stream.proofs.WriteLemmas.{any_err}
use Rattle.druid_segment_file.proofs.WriteLemmas.{up_to_then, spelled_front, nothing_spelled, before_row, row_waits, spelled_out}
use Rattle.druid_segment_file.proofs.writer.write_segment.Goals as goal

pub returns-in_err-gathered-clause-err : goal.returns-in_err-gathered-clause-err
returns-in_err-gathered-clause-err g c =
    any_err c.from_residual.result _ (nothing_spelled c.args.segment.now (g.W.Write.contents c.args.writer.now))

pub returns-in_err-write_gathered-clause-err : goal.returns-in_err-write_gathered-clause-err
returns-in_err-write_gathered-clause-err g c =
    any_err c.from_residual-in_err-write_gathered.result _
    (spelled_front c.args.segment.now c.loop-row.row (g.W.Write.contents c.args.writer.now) (g.W.Write.contents c.loop-row.writer) (g.W.Write.contents c.write_gathered.new.writer) c.loop-row.gathered.items c.loop-row.invariant c.in_err-write_gathered.ensures.err)

pub returns-in_err-append_row-clause-err : goal.returns-in_err-append_row-clause-err
returns-in_err-append_row-clause-err g c =
    let written = g.W.Write.contents c.write_gathered.new.writer in
    let before = heading c.args.segment.now ++ flat_map row (take c.loop-row.row c.args.segment.now.rows) in
    let so_far = up_to_then (g.W.Write.contents c.args.writer.now) (g.W.Write.contents c.loop-row.writer) written before c.loop-row.gathered.items c.write_gathered.new.gathered.items c.loop-row.invariant c.in_ok-write_gathered.ensures.ok in
    any_err c.from_residual-in_err-append_row.result _
    (before_row c.args.segment.now c.loop-row.row (g.W.Write.contents c.args.writer.now) written c.write_gathered.new.gathered.items (omega (arith, c.len-row-end.ensures.value)) so_far)

pub loop-row-preserved : goal.loop-row-preserved
loop-row-preserved g c =
    let written = g.W.Write.contents c.write_gathered.new.writer in
    let before = heading c.args.segment.now ++ flat_map row (take c.loop-row.row c.args.segment.now.rows) in
    let so_far = up_to_then (g.W.Write.contents c.args.writer.now) (g.W.Write.contents c.loop-row.writer) written before c.loop-row.gathered.items c.write_gathered.new.gathered.items c.loop-row.invariant c.in_ok-write_gathered.ensures.ok in
    row_waits c.args.segment.now c.loop-row.row (g.W.Write.contents c.args.writer.now) written c.write_gathered.new.gathered.items c.append_row.new.out.items (omega (arith, c.len-row-end.ensures.value)) c.in_ok-append_row.ensures so_far

pub returns-clause-ok : goal.returns-clause-ok
returns-clause-ok g c =
    let written = g.W.Write.contents c.write_out.new.writer in
    on_ok_weaker c.write_out.result (λ (q : Appends (g.W.Write.contents c.loop-row.writer) written c.deref.result.now).
    spelled_out c.args.segment.now c.loop-row.row (g.W.Write.contents c.args.writer.now) (g.W.Write.contents c.loop-row.writer) written c.loop-row.gathered.items (omega (arith, c.len-row-end.ensures.value)) c.loop-row.invariant (subst (Appends (g.W.Write.contents c.loop-row.writer) written) c.deref.ensures.value q)) c.write_out.ensures.ok

pub returns-clause-err : goal.returns-clause-err
returns-clause-err g c =
    let written = g.W.Write.contents c.write_out.new.writer in
    on_err_weaker c.write_out.result (λ (q : AppendsFront (g.W.Write.contents c.loop-row.writer) written c.deref.result.now).
    spelled_front c.args.segment.now c.loop-row.row (g.W.Write.contents c.args.writer.now) (g.W.Write.contents c.loop-row.writer) written c.loop-row.gathered.items c.loop-row.invariant (subst (AppendsFront (g.W.Write.contents c.loop-row.writer) written) c.deref.ensures.value q)) c.write_out.ensures.err
