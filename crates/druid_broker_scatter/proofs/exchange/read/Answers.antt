use Rattle.std.proofs.Common.{◌≡◌, ℕ, sym, subst}
use Rattle.druid_partial.specs.Partials.{IsPartialFor, kinds_of}
use Rattle.druid_base.proofs.ClauseLemmas.{always_err}
use Rattle.druid_link.specs.Links.{came_of}
use Rattle.druid_broker_scatter.specs.Gathered.{Answers}
use Rattle.druid_broker_scatter.specs.Pending.{exchange_of}
use Rattle.druid_broker_scatter.proofs.StateLemmas.{partial_reported}
use Rattle.druid_broker_scatter.proofs.ReadLemmas.{at_some, answer_lacks}
use Rattle.druid_broker_scatter.proofs.exchange.read.Goals as goal

pub returns-in_err-places-clause-err : goal.returns-in_err-places-clause-err
returns-in_err-places-clause-err c =
    let sub = c.args.sub.now in
    let came = came_of c.args.came.now in
    let answer = c.in-Some.answer in
    always_err c.from_residual-in_err-places.result _
    (answer_lacks sub came answer.missing answer.partial.groups
    (at_some c.in_ok-answer.field-0 answer (λ a. (node : ℕ) → Answers sub.query (exchange_of sub came node) a.missing a.partial.groups) c.in-Some.is c.in_ok-answer.ensures.some))

pub returns-clause-of_query : goal.returns-clause-of_query
returns-clause-of_query c =
    let sub = c.args.sub.now in
    let came = came_of c.args.came.now in
    let answer = c.in-Some.answer in
    subst (IsPartialFor sub.query) (sym c.into_parts-partial.ensures.partial)
    (partial_reported sub.query (exchange_of sub came 0) answer.missing answer.partial
    (at_some c.in_ok-answer.field-0 answer (λ a. (node : ℕ) → Answers sub.query (exchange_of sub came node) a.missing a.partial.groups) c.in-Some.is c.in_ok-answer.ensures.some 0)
    (at_some c.in_ok-answer.field-0 answer (λ a. a.partial.kinds ≡ kinds_of sub.query) c.in-Some.is c.in_ok-answer.ensures.kinds))
