use Rattle.std.proofs.Common.{sym, ap, ◌∙◌}
use Rattle.serde_json.specs.View.{view}
use Rattle.druid_base.specs.Distinct.{are_distinct}
use Rattle.druid_query_text.specs.Found.{Finds}
use Rattle.druid_query_text.specs.Parts.{tail_at}
use Rattle.druid_query_text.proofs.NameLemmas.{names_read}
use Rattle.druid_query_text.proofs.ReadLemmas.{error_holds, tail_filter, tail_dimensions, tail_aggregations, tail_more, tail_judged}
use Rattle.druid_query_text.proofs.parts.Tail.of.Goals as goal

pub returns-in_err-filter : goal.returns-in_err-filter
returns-in_err-filter c =
    let k = c.args.kind in
    let d = view c.args.value.now in
    let e = c.in_err-filter.field-0.0 in
    error_holds (λ r. Finds r (tail_at k d)) c.from_residual.result e c.from_residual.ensures.1 (tail_filter d k e c.in_err-filter.ensures.read)

pub returns-in_err-dimensions : goal.returns-in_err-dimensions
returns-in_err-dimensions c =
    let k = c.args.kind in
    let d = view c.args.value.now in
    let e = c.in_err-dimensions.field-0.0 in
    error_holds (λ r. Finds r (tail_at k d)) c.from_residual-in_err-dimensions.result e c.from_residual-in_err-dimensions.ensures.1
    (tail_dimensions d k _ e c.in_ok-filter.ensures.read c.in_err-dimensions.ensures.read)

pub returns-in_err-aggregations : goal.returns-in_err-aggregations
returns-in_err-aggregations c =
    let k = c.args.kind in
    let d = view c.args.value.now in
    let e = c.in_err-aggregations.field-0.0 in
    error_holds (λ r. Finds r (tail_at k d)) c.from_residual-in_err-aggregations.result e c.from_residual-in_err-aggregations.ensures.1
    (tail_aggregations d k _ _ e c.in_ok-filter.ensures.read c.in_ok-dimensions.ensures.read c.in_err-aggregations.ensures.read)

pub returns-in_err-check_no_more : goal.returns-in_err-check_no_more
returns-in_err-check_no_more c =
    let k = c.args.kind in
    let d = view c.args.value.now in
    let e = c.in_err-check_no_more.field-0.0 in
    error_holds (λ r. Finds r (tail_at k d)) c.from_residual-in_err-check_no_more.result e c.from_residual-in_err-check_no_more.ensures.1
    (tail_more d k _ _ _ e c.in_ok-filter.ensures.read c.in_ok-dimensions.ensures.read c.in_ok-aggregations.ensures.read c.in_err-check_no_more.ensures)

pub returns-then-not-are_distinct : goal.returns-then-not-are_distinct
returns-then-not-are_distinct c =
    let same = sym c.if-not-are_distinct.true ∙ c.are_distinct.ensures ∙ ap are_distinct (names_read c.in_ok-dimensions.dimensions.now c.in_ok-aggregations.aggregations.now c.in_ok-dimensions.ensures.each c.in_ok-aggregations.ensures.each) in
    tail_judged (view c.args.value.now) c.args.kind _ _ _ _ c.in_ok-filter.ensures.read c.in_ok-dimensions.ensures.read c.in_ok-aggregations.ensures.read c.in_ok-check_no_more.ensures same

pub returns : goal.returns
returns c =
    let same = sym c.if-not-are_distinct.false ∙ c.are_distinct.ensures ∙ ap are_distinct (names_read c.in_ok-dimensions.dimensions.now c.in_ok-aggregations.aggregations.now c.in_ok-dimensions.ensures.each c.in_ok-aggregations.ensures.each) in
    tail_judged (view c.args.value.now) c.args.kind _ _ _ _ c.in_ok-filter.ensures.read c.in_ok-dimensions.ensures.read c.in_ok-aggregations.ensures.read c.in_ok-check_no_more.ensures same
