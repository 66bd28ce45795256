use Rattle.std.proofs.Common.{◌∷◌}
use Rattle.druid_broker_follow.proofs.TurnLemmas.{turns_go_on}
use Rattle.druid_broker_follow.proofs.syncer.follow_on_observed.Goals as goal

pub loop-preserved : goal.loop-preserved
loop-preserved g c =
    let so_far = c.loop.invariant in
    let made = c.turn_after-rest.ensures in (made.0 ∷ so_far.0, (c.loop.view, c.loop.link, so_far.1, made.1))

pub returns-then-ends-clause-view : goal.returns-then-ends-clause-view
returns-then-ends-clause-view g c =
    let so_far = c.loop.invariant in
    turns_go_on g.L.Link.exchanges g.J.Publication.opening c.args.node so_far.0 c.args.view.now c.loop.view c.args.link.now c.loop.link so_far.1
