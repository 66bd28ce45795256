use Rattle.druid_broker.proofs.ServeLemmas.{goes_on, sent, cut_short}
use Rattle.druid_broker.specs.Views.{RespondsBy}
use Rattle.druid_broker.proofs.exchange.serve_one.Goals as goal

pub returns-in-Ok-clause-view : goal.returns-in-Ok-clause-view
returns-in-Ok-clause-view g c =
    goes_on g.L.Link.exchanges (g.P.Pick.orders c.args.pick.now c.args.turn) g.J.Publication.opening c.args.view.now c.respond-response.new.view c.args.links.now c.respond-response.new.links c.in-Ok.request
    c.respond-response.result.status c.respond-response.result.body c.respond-response.ensures

pub returns-in-Ok-clause-ok : goal.returns-in-Ok-clause-ok
returns-in-Ok-clause-ok g c =
    sent (RespondsBy g.L.Link.exchanges (g.P.Pick.orders c.args.pick.now c.args.turn) g.J.Publication.opening c.args.view.now c.respond-response.new.view c.args.links.now c.respond-response.new.links)
    _ c.in-Ok.request _ _ _ _ c.respond-response.result.status c.respond-response.result.body c.send_response.result
    c.in-Ok.ensures.ok c.respond-response.ensures c.send_response.ensures.ok

pub returns-in-Ok-clause-err : goal.returns-in-Ok-clause-err
returns-in-Ok-clause-err g c =
    cut_short (RespondsBy g.L.Link.exchanges (g.P.Pick.orders c.args.pick.now c.args.turn) g.J.Publication.opening c.args.view.now c.respond-response.new.view c.args.links.now c.respond-response.new.links)
    _ c.in-Ok.request _ _ _ _ c.respond-response.result.status c.respond-response.result.body c.send_response.result
    c.in-Ok.ensures.ok c.respond-response.ensures c.send_response.ensures.err
