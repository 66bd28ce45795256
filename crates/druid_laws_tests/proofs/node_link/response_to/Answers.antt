use Rattle.std.proofs.Common.{◌≡◌, ℕ, List, subst}
use Rattle.std.specs.Prelude.{IfOk}
use Rattle.druid_http_wire.specs.Written.{answer_text}
use Rattle.druid_laws_tests.proofs.NodeLemmas.{answer_reported, unfrozen}
use Rattle.druid_laws_tests.proofs.node_link.response_to.Goals as goal

pub returns-in-Ok-clause-ok : goal.returns-in-Ok-clause-ok
returns-in-Ok-clause-ok c =
    answer_reported c.args.state.now c.respond.new.self c.args.request.now c.in-Ok.answer.0 c.in-Ok.answer.1.items c.text_of.result c.requires c.in-Ok.ensures.stays
    c.in-Ok.ensures.ok (subst (λ (b : List ℕ). IfOk c.text_of.result (λ text. text.items ≡ answer_text c.in-Ok.answer.0 b)) c.deref.ensures.value c.text_of.ensures.ok)

pub returns-in-Ok-clause-same : goal.returns-in-Ok-clause-same
returns-in-Ok-clause-same c = unfrozen c.args.state.now c.respond.new.self c.requires c.in-Ok.ensures.stays

pub returns-in-Err-clause-same : goal.returns-in-Err-clause-same
returns-in-Err-clause-same c = unfrozen c.args.state.now c.respond.new.self c.requires c.in-Err.ensures.stays
