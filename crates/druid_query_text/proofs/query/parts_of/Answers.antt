use Rattle.std.proofs.Common.{◌≡◌, Ok, sym, ap, ◌∙◌, subst}
use Rattle.serde_json.specs.View.{view}
use Rattle.druid_query.specs.Fields.{interval_of}
use Rattle.druid_query.specs.Read.{query_at}
use Rattle.druid_query_text.specs.Found.{Finds, Refuses, readings}
use Rattle.druid_query_text.specs.Parts.{tail_at}
use Rattle.druid_query_text.proofs.ReadLemmas.{error_holds, query_head, query_times, query_tail, query_is}
use Rattle.druid_query_text.proofs.query.parts_of.Goals as goal

pub returns-in_err-head : goal.returns-in_err-head
returns-in_err-head c =
    let d = view c.args.value.now in
    let e = c.in_err-head.field-0.0 in
    error_holds (λ r. Finds r (query_at d)) c.from_residual.result e c.from_residual.ensures.1 (query_head d e c.in_err-head.ensures)

pub returns-in_err-intervals : goal.returns-in_err-intervals
returns-in_err-intervals c =
    let d = view c.args.value.now in
    let e = c.in_err-intervals.field-0.0 in
    error_holds (λ r. Finds r (query_at d)) c.from_residual-in_err-intervals.result e c.from_residual-in_err-intervals.ensures.1
    (query_times d c.in_ok-head.head e c.in_ok-head.ensures c.in_err-intervals.ensures)

pub returns-in_err-tail : goal.returns-in_err-tail
returns-in_err-tail c =
    let d = view c.args.value.now in
    let e = c.in_err-tail.field-0.0 in
    error_holds (λ r. Finds r (query_at d)) c.from_residual-in_err-tail.result e c.from_residual-in_err-tail.ensures.1
    (query_tail d c.in_ok-head.head (readings interval_of c.in_ok-intervals.intervals.now) e c.in_ok-head.ensures c.in_ok-intervals.ensures
    (subst (λ k. Refuses e (tail_at k d)) c.kind.ensures c.in_err-tail.ensures))

pub returns : goal.returns
returns c =
    let d = view c.args.value.now in
    query_is d c.in_ok-head.head (readings interval_of c.in_ok-intervals.intervals.now) c.in_ok-tail.tail c.in_ok-head.ensures c.in_ok-intervals.ensures
    (subst (λ k. tail_at k d ≡ Ok c.in_ok-tail.tail) c.kind.ensures c.in_ok-tail.ensures)
    ∙ ap Ok (sym c.new.ensures)
