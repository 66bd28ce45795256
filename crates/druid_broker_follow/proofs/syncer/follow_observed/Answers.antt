use Rattle.std.proofs.Common.{◌∷◌, sym, ap, ◌∙◌, arith}
use Rattle.druid_broker_follow.specs.Turns.{failures_after}
use Rattle.druid_broker_follow.proofs.TurnLemmas.{turn_ends, turns_go_on}
use Rattle.druid_broker_follow.proofs.syncer.follow_observed.Goals as goal

pub loop-turn-preserved : goal.loop-turn-preserved
loop-turn-preserved g c =
    let so_far = c.loop-turn.invariant.turns in
    let turn = c.observed_turn-turn.result in
    let count = so_far.2 in
    let few = c.loop-turn.invariant.few in
    let one = c.failures_after-failed.ensures.few in record {
      turns = (
        turn ∷ so_far.0,
        (
          c.loop-turn.view,
          c.loop-turn.link,
          so_far.1,
          turn_ends g.L.Link.exchanges g.J.Publication.opening c.args.node c.loop-turn.view c.observed_turn-turn.new.view c.loop-turn.link c.observed_turn-turn.new.link turn
              c.observed_turn-turn.ensures.ok c.observed_turn-turn.ensures.err,
        ),
        omega (arith, count),
        ap (failures_after turn) so_far.3 ∙ sym {b = failures_after turn c.loop-turn.failed} c.failures_after-failed.ensures.count,
      );
      few = omega (arith, few, one);
    }

pub returns-clause-view : goal.returns-clause-view
returns-clause-view g c =
    let so_far = c.loop-turn.invariant.turns in
    turns_go_on g.L.Link.exchanges g.J.Publication.opening c.args.node so_far.0 c.args.view.now c.loop-turn.view c.args.link.now c.loop-turn.link so_far.1
