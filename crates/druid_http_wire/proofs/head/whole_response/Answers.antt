use Rattle.std.proofs.Common.{sym, ◌∙◌, inr}
use Rattle.druid_http_wire.proofs.HeadLemmas.{no_response, low_response, some_response, response_says, low_code}
use Rattle.druid_http_wire.proofs.head.whole_response.Goals as goal

pub returns-then-spans-head-clause-err : goal.returns-then-spans-head-clause-err
returns-then-spans-head-clause-err c =
    no_response _ _ c.args.spans c.requires.found.0 c.requires.found.1 c.requires.within.section.len_fits (λ e. c.if-spans-head.true e)

pub returns-in_default-clause-err : goal.returns-in_default-clause-err
returns-in_default-clause-err c =
    low_response _ _ c.args.spans _ c.requires.found.1 (low_code _ c.requires.within.code c.in_default.ensures)

pub returns-in-Ok-body_length-clause-ok : goal.returns-in-Ok-body_length-clause-ok
returns-in-Ok-body_length-clause-ok c = record {
  head = c.requires.found.0;
  reads = some_response _ _ c.args.spans _ c.requires.found.1 c.requires.within.section.count_fits c.requires.room c.if-spans-head.false c.in-Ok.ensures.0.0;
  code = (c.in-Ok.ensures.1 ∙ c.requires.found.1.code);
  whole = response_says _ _ c.args.spans _ _ c.requires.found.1 (sym c.in-Ok-body_length.is ∙ c.body_length.ensures);
}

pub returns-in-Err-clause-err : goal.returns-in-Err-clause-err
returns-in-Err-clause-err c =
    inr (inr (
      c.requires.found.0,
      some_response _ _ c.args.spans _ c.requires.found.1 c.requires.within.section.count_fits c.requires.room c.if-spans-head.false c.in-Ok.ensures.0.0,
      response_says _ _ c.args.spans _ _ c.requires.found.1 (sym c.in-Err.is ∙ c.body_length.ensures),
    ))
