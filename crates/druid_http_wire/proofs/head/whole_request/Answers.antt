use Rattle.std.proofs.Common.{sym, ◌∙◌, inr}
use Rattle.druid_http_wire.proofs.HeadLemmas.{no_request, some_request, request_says, needs_body}
use Rattle.druid_http_wire.proofs.head.whole_request.Goals as goal

pub returns-then-spans-head-clause-err : goal.returns-then-spans-head-clause-err
returns-then-spans-head-clause-err c =
    no_request _ _ c.args.spans c.requires.found.0 c.requires.found.1 c.requires.within.section.len_fits (λ e. c.if-spans-head.true e)

pub returns-in-Err-clause-err : goal.returns-in-Err-clause-err
returns-in-Err-clause-err c =
    inr (inr (
      c.requires.found.0,
      some_request _ _ c.args.spans _ c.requires.found.1 c.requires.within.section.count_fits c.requires.room c.if-spans-head.false,
      request_says _ _ c.args.spans _ c.eq-needed.result _ c.requires.found.1 (needs_body _ _ _ _ c.eq-needed.ensures c.of.ensures c.as_slice.ensures) (sym c.in-Err.is ∙ c.body_length.ensures),
    ))
