use Rattle.std.proofs.Common.{◌∙◌, sym}
use Rattle.druid_broker_scatter.proofs.ReportLemmas.{no_response, not_ok, reported_no_json, reported_other_shape}
use Rattle.druid_broker_scatter.proofs.answer.answer_in.Goals as goal

pub returns-in_default-clause-none : goal.returns-in_default-clause-none
returns-in_default-clause-none c = no_response c.args.sub.now c.args.bytes.now c.in_default.ensures.none

pub returns-then-ne-clause-none : goal.returns-then-ne-clause-none
returns-then-ne-clause-none c =
    let r = c.in-Ok.ensures.ok in
    not_ok c.args.sub.now c.args.bytes.now _ _ r.0 r.1 (sym c.ne.ensures ∙ c.if-ne.true)

pub returns-in-Err-NotJson-clause-none : goal.returns-in-Err-NotJson-clause-none
returns-in-Err-NotJson-clause-none c =
    let r = c.in-Ok.ensures.ok in
    reported_no_json c.args.sub.now c.args.bytes.now _ _ r.0 c.in-Err-NotJson.field-0 r.1 c.in-Err-NotJson.ensures c.in-Err-NotJson.field-0-is

pub returns-in-Err-Shape-clause-none : goal.returns-in-Err-Shape-clause-none
returns-in-Err-Shape-clause-none c =
    let r = c.in-Ok.ensures.ok in
    reported_other_shape c.args.sub.now c.args.bytes.now _ _ r.0 c.in-Err-Shape.field-0 r.1 c.in-Err-Shape.ensures c.in-Err-Shape.field-0-is
