use Rattle.std.proofs.Common.{ap, sym, ◌∙◌, inl, inr, refl}
use Rattle.std.specs.Option.{option_map}
use Rattle.std.proofs.lemmas.Result.{IfOk-weaker, IfErr-weaker}
use Rattle.std.proofs.KnownBytes.{Keeps-refl}
use Rattle.druid_http_wire.specs.Response.{error_text}
use Rattle.druid_http_wire.proofs.server.refuse_request.Goals as goal

pub returns-in-Some-clause-ok : goal.returns-in-Some-clause-ok
returns-in-Some-clause-ok g c =
    let text = sym c.refusal_code.ensures ∙ ap (option_map (λ t. error_text t.now)) c.in-Some.is in
    let refused = c.of_error-refusal.ensures in
    IfOk-weaker c.send_response.result _ _ (λ sent is. (error_text c.in-Some.code.now, text, rw (sym refused.status_is, sym refused.body_is) is)) c.send_response.ensures.ok

pub returns-in-Some-clause-err : goal.returns-in-Some-clause-err
returns-in-Some-clause-err g c =
    let text = sym c.refusal_code.ensures ∙ ap (option_map (λ t. error_text t.now)) c.in-Some.is in
    let refused = c.of_error-refusal.ensures in
    IfErr-weaker c.send_response.result _ _ (λ reported is. inr (error_text c.in-Some.code.now, text, rw (sym refused.status_is, sym refused.body_is) is)) c.send_response.ensures.err

pub returns-in-None-clause-err : goal.returns-in-None-clause-err
returns-in-None-clause-err g c =
    let none = sym c.refusal_code.ensures ∙ ap (option_map (λ t. error_text t.now)) c.in-None.is in
    inl (refl, none, Keeps-refl _)
