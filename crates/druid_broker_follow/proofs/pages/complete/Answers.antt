use Rattle.std.proofs.Common.{Option, Err, sym, subst}
use Rattle.druid_segment_descriptor.specs.declared.reply.Body.{Body}
use Rattle.druid_broker_follow.specs.Turns.{Completes}
use Rattle.druid_broker_follow.specs.Pages.{request_at, segments_of, PutsPage}
use Rattle.druid_broker_follow.specs.declared.fault.TurnFault.{TurnFault}
use Rattle.druid_broker_follow.proofs.PageLemmas.{goes_on, completes, stops, never_begun}
use Rattle.druid_broker_follow.proofs.pages.complete.Goals as goal

pub returns-in-Err : goal.returns-in-Err
returns-in-Err g c =
    subst (λ (fault : TurnFault). Completes g.L.Link.exchanges (request_at c.args.path.now) c.args.at c.args.of (segments_of c.args.first.now) c.args.link.now c.args.link.now (Err fault)) (sym c.in-Err.ensures.err)
    (never_begun g.L.Link.exchanges (request_at c.args.path.now) c.args.at c.args.of (segments_of c.args.first.now) c.args.link.now c.in-Err.ensures.several)

pub returns-in-Ok-Some : goal.returns-in-Ok-Some
returns-in-Ok-Some g c =
    completes g.L.Link.exchanges (request_at c.args.path.now) c.args.at c.args.of (segments_of c.args.first.now) c.loop-page.page c.loop-page.assembly c.args.link.now c.loop-page.link c.loop-page.invariant
    c.add_page.new.assembly c.add_page.new.link c.in-Ok-Some.snapshot
    (subst (λ (given : Option Body). PutsPage g.L.Link.exchanges (request_at c.args.path.now) c.args.at c.loop-page.page c.loop-page.assembly c.add_page.new.assembly c.loop-page.link c.add_page.new.link given)
    c.in-Ok-Some.field-0-is c.in-Ok-Some.ensures.ok)

pub returns-in-Err-add_page : goal.returns-in-Err-add_page
returns-in-Err-add_page g c =
    stops g.L.Link.exchanges (request_at c.args.path.now) c.args.at c.args.of (segments_of c.args.first.now) c.loop-page.page c.loop-page.assembly c.args.link.now c.loop-page.link c.loop-page.invariant
    c.add_page.new.link c.in-Err-add_page.fault c.in-Err-add_page.ensures.err

pub loop-page-preserved : goal.loop-page-preserved
loop-page-preserved g c =
    goes_on g.L.Link.exchanges (request_at c.args.path.now) c.args.at c.args.of (segments_of c.args.first.now) c.loop-page.page c.loop-page.assembly c.args.link.now c.loop-page.link c.loop-page.invariant
    c.add_page.new.assembly c.add_page.new.link
    (subst (λ (given : Option Body). PutsPage g.L.Link.exchanges (request_at c.args.path.now) c.args.at c.loop-page.page c.loop-page.assembly c.add_page.new.assembly c.loop-page.link c.add_page.new.link given)
    c.in-Ok-None.field-0-is c.in-Ok-None.ensures.ok)
