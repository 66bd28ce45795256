use Rattle.std.proofs.Common.{sym, ◌∙◌}
use Rattle.serde_json.specs.View.{view}
use Rattle.druid_query.specs.Asked.{inside_at}
use Rattle.druid_query.specs.SubQuery.{pieces_at, span_at}
use Rattle.druid_query_text.specs.Found.{FindsAfter, readings}
use Rattle.druid_query_text.specs.Parts.{span_by}
use Rattle.druid_query_text.proofs.ListLemmas.{each_reading}
use Rattle.druid_query_text.proofs.ReadLemmas.{error_holds, after}
use Rattle.druid_query_text.proofs.SubLemmas.{span_pieces, span_overlaps, span_intervals, span_is}
use Rattle.druid_query_text.proofs.subquery.span_of.Goals as goal

pub returns-in_err-asked-clause-read : goal.returns-in_err-asked-clause-read
returns-in_err-asked-clause-read c =
    let s = c.args.source.now in
    let d = view c.args.value.now in
    let e = c.in_err-asked.field-0.0 in
    error_holds (λ r. FindsAfter (λ slices. span_by s slices.0.now slices.1.now) (pieces_at s d) r (span_at s d)) c.from_residual.result e c.from_residual.ensures.1
    (after (pieces_at s d) e (span_at s d) (span_pieces s d e c.in_err-asked.ensures.read))

pub returns-then-not-apart-clause-read : goal.returns-then-not-apart-clause-read
returns-then-not-apart-clause-read c =
    let s = c.args.source.now in
    let all = readings (inside_at s) c.in_ok-asked.asked.now in
    span_overlaps s (view c.args.value.now) all c.in_ok-asked.ensures.read
    (sym c.if-not-apart.true ∙ c.in-Ok.ensures all (each_reading (inside_at s) c.in_ok-asked.asked.now c.in_ok-asked.ensures.each))

pub returns-in_err-intervals-clause-read : goal.returns-in_err-intervals-clause-read
returns-in_err-intervals-clause-read c =
    let s = c.args.source.now in
    let d = view c.args.value.now in
    let all = readings (inside_at s) c.in_ok-asked.asked.now in
    let e = c.in_err-intervals.field-0.0 in
    error_holds (λ r. FindsAfter (λ slices. span_by s slices.0.now slices.1.now) (pieces_at s d) r (span_at s d)) c.from_residual-in_err-intervals.result e c.from_residual-in_err-intervals.ensures.1
    (after (pieces_at s d) e (span_at s d) (span_intervals s d all e c.in_ok-asked.ensures.read
    (sym c.if-not-apart.false ∙ c.in-Ok.ensures all (each_reading (inside_at s) c.in_ok-asked.asked.now c.in_ok-asked.ensures.each)) c.in_err-intervals.ensures))

pub returns-clause-read : goal.returns-clause-read
returns-clause-read c =
    let s = c.args.source.now in
    let all = readings (inside_at s) c.in_ok-asked.asked.now in
    span_is s (view c.args.value.now) all _ c.in_ok-asked.ensures.read
    (sym c.if-not-apart.false ∙ c.in-Ok.ensures all (each_reading (inside_at s) c.in_ok-asked.asked.now c.in_ok-asked.ensures.each)) c.in_ok-intervals.ensures
