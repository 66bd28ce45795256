use Rattle.std.proofs.Common.{◌≡◌, Ok, sym, ap, ◌∙◌, subst}
use Rattle.serde_json.specs.View.{view}
use Rattle.druid_query.specs.Asked.{inside_at}
use Rattle.druid_query.specs.Refusal.{ReportsAfter}
use Rattle.druid_query.specs.SubQuery.{pieces_at, span_at, before_search, subquery_at}
use Rattle.druid_query_text.specs.Found.{FindsAfter, Refuses, readings}
use Rattle.druid_query_text.specs.Parts.{tail_at, span_by}
use Rattle.druid_query_text.proofs.ReadLemmas.{error_holds}
use Rattle.druid_query_text.proofs.SubLemmas.{sub_head, sub_times, sub_tail, sub_is}
use Rattle.druid_query_text.proofs.subquery.SubQueryRef.of.Goals as goal

pub returns-in_err-head : goal.returns-in_err-head
returns-in_err-head c =
    let d = view c.args.value.now in
    let e = c.in_err-head.field-0.0 in
    error_holds (λ r. FindsAfter (λ sub. sub) (before_search d) r (subquery_at d)) c.from_residual.result e c.from_residual.ensures.1 (sub_head d e c.in_err-head.ensures)

pub returns-in_err-asked : goal.returns-in_err-asked
returns-in_err-asked c =
    let d = view c.args.value.now in
    let e = c.in_err-asked.field-0.0 in
    error_holds (λ r. FindsAfter (λ sub. sub) (before_search d) r (subquery_at d)) c.from_residual-in_err-asked.result e c.from_residual-in_err-asked.ensures.1
    (sub_times d c.in_ok-head.head e c.in_ok-head.ensures (subst (λ s. ReportsAfter (pieces_at s d) e (span_at s d)) c.source.ensures c.in_err-asked.ensures.read))

pub returns-in_err-tail : goal.returns-in_err-tail
returns-in_err-tail c =
    let d = view c.args.value.now in
    let e = c.in_err-tail.field-0.0 in
    error_holds (λ r. FindsAfter (λ sub. sub) (before_search d) r (subquery_at d)) c.from_residual-in_err-tail.result e c.from_residual-in_err-tail.ensures.1
    (sub_tail d c.in_ok-head.head (span_by c.in_ok-head.head.source c.in_ok-asked.asked.now c.in_ok-asked.intervals.now) e c.in_ok-head.ensures
    (subst (λ s. span_at s d ≡ Ok (span_by s c.in_ok-asked.asked.now c.in_ok-asked.intervals.now)) c.source.ensures c.in_ok-asked.ensures.read)
    (subst (λ k. Refuses e (tail_at k d)) c.kind.ensures c.in_err-tail.ensures))

pub returns : goal.returns
returns c =
    let d = view c.args.value.now in
    sub_is d c.in_ok-head.head (span_by c.in_ok-head.head.source c.in_ok-asked.asked.now c.in_ok-asked.intervals.now) c.in_ok-tail.tail c.in_ok-head.ensures
    (subst (λ s. span_at s d ≡ Ok (span_by s c.in_ok-asked.asked.now c.in_ok-asked.intervals.now)) c.source.ensures c.in_ok-asked.ensures.read)
    (subst (λ k. tail_at k d ≡ Ok c.in_ok-tail.tail) c.kind.ensures c.in_ok-tail.ensures)
    ∙ ap (λ q. Ok (record { query = q; asked = readings (inside_at q.source) c.in_ok-asked.asked.now })) (sym c.new.ensures)
