use Rattle.std.proofs.Common.{List, length, ap, arith, refl}
use Rattle.std.proofs.lemmas.List.{length-map}
use Rattle.druid_inventory.specs.Entry.{Entry}
use Rattle.druid_http_message.specs.Requests.{path_of}
use Rattle.druid_broker.specs.Routes.{route_of}
use Rattle.druid_broker.proofs.ServeLemmas.{known, of_question, settled, takes_of, unread}
use Rattle.druid_broker.proofs.response.respond.Goals as goal

pub answer-requires-after_bounds : goal.answer-requires-after_bounds
answer-requires-after_bounds g c κs within =
    let found : List Entry = c.in-Ok-read.inventory.value in
    omega (arith, ap length c.in-Ok-read.ensures.names, length-map found (λ e. e.name), length-map g.J.Publication.opening (λ e. e.name), ap length c.deref.ensures, c.requires)

pub returns-in-Err : goal.returns-in-Err
returns-in-Err g c =
    settled g.L.Link.exchanges (g.P.Pick.orders c.args.turn.now.pick.now c.args.turn.now.number) g.J.Publication.opening c.args.view.now c.args.view.now c.args.links.now c.args.links.now
    c.args.request.now c.in-Err.response.status c.in-Err.response.body refl refl (route_of (path_of c.args.request.now.target)) c.in-Err.ensures.err

pub returns-in-Ok-read : goal.returns-in-Ok-read
returns-in-Ok-read g c =
    let step = g.L.Link.exchanges in
    let order = g.P.Pick.orders c.args.turn.now.pick.now c.args.turn.now.number in
    let route = route_of (path_of c.args.request.now.target) in
    let asked = c.in-Ok.ensures.ok in
    known step order g.J.Publication.opening c.args.view.now c.read.new.self c.args.links.now c.answer.new.links route c.args.request.now c.answer.result.status c.answer.result.body
    c.in-Ok-read.inventory.value c.deref.result.now c.deref.ensures (takes_of route c.args.request.now c.in-Ok.question asked) c.in-Ok-read.ensures.prefix c.in-Ok-read.ensures.fold
    (of_question step order c.deref.result.now c.args.links.now c.answer.new.links c.args.request.now c.answer.result.status c.answer.result.body route c.in-Ok.question asked c.answer.ensures)

pub returns : goal.returns
returns g c =
    let route = route_of (path_of c.args.request.now.target) in
    unread g.L.Link.exchanges (g.P.Pick.orders c.args.turn.now.pick.now c.args.turn.now.number) g.J.Publication.opening c.args.view.now c.read.new.self c.args.links.now c.args.links.now
    route c.args.request.now c.answer_unread.result.status c.answer_unread.result.body (takes_of route c.args.request.now c.in-Ok.question c.in-Ok.ensures.ok)
    c.answer_unread.ensures c.in-Err-read.ensures.stays refl
