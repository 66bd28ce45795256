use Rattle.serde_json.specs.View.{view}
use Rattle.druid_query_text.specs.Found.{Finds}
use Rattle.druid_query_text.specs.Parts.{head_at}
use Rattle.druid_query_text.proofs.ReadLemmas.{error_holds, head_kind, head_source, head_granularity, head_is}
use Rattle.druid_query_text.proofs.parts.Head.of.Goals as goal

pub returns-in_default : goal.returns-in_default
returns-in_default c = head_kind (view c.args.value.now) c.in_default.ensures

pub returns-in_err-source : goal.returns-in_err-source
returns-in_err-source c =
    let d = view c.args.value.now in
    let e = c.in_err-source.field-0.0 in
    error_holds (λ r. Finds r (head_at d)) c.from_residual.result e c.from_residual.ensures.1 (head_source d c.in-Some.kind e c.in-Some.ensures c.in_err-source.ensures)

pub returns-in_err-granularity : goal.returns-in_err-granularity
returns-in_err-granularity c =
    let d = view c.args.value.now in
    let e = c.in_err-granularity.field-0.0 in
    error_holds (λ r. Finds r (head_at d)) c.from_residual-in_err-granularity.result e c.from_residual-in_err-granularity.ensures.1
    (head_granularity d c.in-Some.kind c.in_ok-source.source.now e c.in-Some.ensures c.in_ok-source.ensures c.in_err-granularity.ensures)

pub returns : goal.returns
returns c = head_is (view c.args.value.now) c.in-Some.kind c.in_ok-source.source.now c.in_ok-granularity.granularity c.in-Some.ensures c.in_ok-source.ensures c.in_ok-granularity.ensures
