use Rattle.std.proofs.Common.{refl, arith}
use Rattle.std.specs.Io.KnownBytes.{Appends}
use Rattle.std.proofs.lemmas.Result.{on_ok_weaker, on_err_weaker}
use Rattle.druid_stream.specs.Fronts.{AppendsFront}
use Rattle.druid_segment_file.specs.ColumnBytes.{column_spelling}
use Rattle.druid_segment_file.proofs.ColumnWriteLemmas.{nothing_written, spelling_long}
use Rattle.druid_segment_file.proofs.columns_writer.write_columns.Goals as goal

pub returns-then-not-is_short-clause-err : goal.returns-then-not-is_short-clause-err
returns-then-not-is_short-clause-err g c =
    let coding = c.read_dimensions.ensures in
    (column_spelling c.args.segment.now coding.0, (coding.0, coding.1, refl), nothing_written c.args.segment.now coding.0 (g.W.Write.contents c.args.writer.now))

pub returns-then-not-is_short-clause-too_long : goal.returns-then-not-is_short-clause-too_long
returns-then-not-is_short-clause-too_long g c =
    (λ yes bytes is. spelling_long c.args.segment.now bytes c.is_short.result c.is_short.ensures c.if-not-is_short.true is, λ all. refl)

pub returns-clause-ok : goal.returns-clause-ok
returns-clause-ok g c =
    let coding = c.read_dimensions.ensures in
    let bytes = column_spelling c.args.segment.now coding.0 in
    on_ok_weaker c.write_parts.result (λ (q : Appends (g.W.Write.contents c.args.writer.now) (g.W.Write.contents c.write_parts.new.writer) bytes).
    (bytes, (coding.0, coding.1, refl), (c.is_short.ensures coding.0 coding.1).0 c.if-not-is_short.false, q)) (c.write_parts.ensures.ok coding.0 coding.1)

pub returns-clause-err : goal.returns-clause-err
returns-clause-err g c =
    let coding = c.read_dimensions.ensures in
    let bytes = column_spelling c.args.segment.now coding.0 in
    on_err_weaker c.write_parts.result (λ (q : AppendsFront (g.W.Write.contents c.args.writer.now) (g.W.Write.contents c.write_parts.new.writer) bytes).
    (bytes, (coding.0, coding.1, refl), q)) (c.write_parts.ensures.err coding.0 coding.1)

pub returns-clause-too_long : goal.returns-clause-too_long
returns-clause-too_long g c =
    let coding = c.read_dimensions.ensures in (
      λ yes. absurd (search (arith, yes, c.write_parts.ensures.faults)),
      λ all. absurd (omega (arith, (c.is_short.ensures coding.0 coding.1).0 c.if-not-is_short.false, all (column_spelling c.args.segment.now coding.0) (coding.0, coding.1, refl))),
    )
