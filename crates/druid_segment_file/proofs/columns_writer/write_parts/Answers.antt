use Rattle.std.proofs.Common.{subst}
use Rattle.std.specs.Io.KnownBytes.{Appends}
use Rattle.std.proofs.lemmas.Result.{on_ok_weaker, on_err_weaker}
use Rattle.druid_stream.specs.Fronts.{AppendsFront}
use Rattle.druid_stream.proofs.WriteLemmas.{any_err}
use Rattle.druid_segment_file.specs.ColumnBytes.{column_spelling}
use Rattle.druid_segment_file.proofs.WriteLemmas.{wrote_rest}
use Rattle.druid_segment_file.proofs.ColumnWriteLemmas.{nothing_written, dimensions_failed, metrics_failed, all_spelled, rest_unwritten}
use Rattle.druid_segment_file.proofs.columns_writer.write_parts.Goals as goal

pub returns-in_err-gathered-clause-err : goal.returns-in_err-gathered-clause-err
returns-in_err-gathered-clause-err g c = λ dimensions coded.
    any_err c.from_residual.result _ (nothing_written c.args.segment.now dimensions (g.W.Write.contents c.args.writer.now))

pub returns-in_err-write_dimensions-clause-err : goal.returns-in_err-write_dimensions-clause-err
returns-in_err-write_dimensions-clause-err g c = λ dimensions coded.
    any_err c.from_residual-in_err-write_dimensions.result _
    (dimensions_failed c.args.segment.now dimensions (g.W.Write.contents c.args.writer.now) (g.W.Write.contents c.write_dimensions.new.writer) c.in_ok-gathered.gathered.items c.in_ok-gathered.ensures (c.in_err-write_dimensions.ensures.err dimensions coded))

pub returns-in_err-write_metrics-clause-err : goal.returns-in_err-write_metrics-clause-err
returns-in_err-write_metrics-clause-err g c = λ dimensions coded.
    any_err c.from_residual-in_err-write_metrics.result _
    (metrics_failed c.args.segment.now dimensions (g.W.Write.contents c.args.writer.now) (g.W.Write.contents c.write_dimensions.new.writer) (g.W.Write.contents c.write_metrics.new.writer) c.in_ok-gathered.gathered.items c.write_dimensions.new.gathered.items c.in_ok-gathered.ensures (c.in_ok-write_dimensions.ensures.ok dimensions coded) c.in_err-write_metrics.ensures.err)

pub returns-clause-ok : goal.returns-clause-ok
returns-clause-ok g c = λ dimensions coded.
    let a = g.W.Write.contents c.args.writer.now in
    let before = g.W.Write.contents c.write_metrics.new.writer in
    let after = g.W.Write.contents c.write_out.new.writer in
    let rest = c.write_metrics.new.gathered.items in
    let waits = all_spelled c.args.segment.now dimensions a (g.W.Write.contents c.write_dimensions.new.writer) before c.in_ok-gathered.gathered.items c.write_dimensions.new.gathered.items rest c.in_ok-gathered.ensures (c.in_ok-write_dimensions.ensures.ok dimensions coded) c.in_ok-write_metrics.ensures.ok in
    on_ok_weaker c.write_out.result (λ (q : Appends before after c.deref.result.now).
    wrote_rest a before after (column_spelling c.args.segment.now dimensions) rest waits (subst (Appends before after) c.deref.ensures.value q)) c.write_out.ensures.ok

pub returns-clause-err : goal.returns-clause-err
returns-clause-err g c = λ dimensions coded.
    let a = g.W.Write.contents c.args.writer.now in
    let before = g.W.Write.contents c.write_metrics.new.writer in
    let after = g.W.Write.contents c.write_out.new.writer in
    let rest = c.write_metrics.new.gathered.items in
    let waits = all_spelled c.args.segment.now dimensions a (g.W.Write.contents c.write_dimensions.new.writer) before c.in_ok-gathered.gathered.items c.write_dimensions.new.gathered.items rest c.in_ok-gathered.ensures (c.in_ok-write_dimensions.ensures.ok dimensions coded) c.in_ok-write_metrics.ensures.ok in
    on_err_weaker c.write_out.result (λ (q : AppendsFront before after c.deref.result.now).
    rest_unwritten a before after (column_spelling c.args.segment.now dimensions) rest waits (subst (AppendsFront before after) c.deref.ensures.value q)) c.write_out.ensures.err
