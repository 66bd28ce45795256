use Rattle.std.proofs.Common.{length, sym, subst, arith, rules}
use Rattle.druid_base.proofs.ClauseLemmas.{always_err}
use Rattle.druid_broker_scatter.specs.Pending.{State, AreBelow}
use Rattle.druid_broker_scatter.proofs.GatherLemmas.{below, leading_none, leading_more, leading_err, leading_made, none_asked, gathered_all}
use Rattle.druid_broker_scatter.proofs.scatter.gather.Goals as goal

pub returns-in_err-waiting-clause-err : goal.returns-in_err-waiting-clause-err
returns-in_err-waiting-clause-err g c =
    always_err c.from_residual.result _ (none_asked g.L.Link.exchanges (g.P.Pick.orders c.args.pick.now c.args.turn) c.args.query.now c.args.plan.now c.args.links.now)

pub returns-in_err-empty-clause-err : goal.returns-in_err-empty-clause-err
returns-in_err-empty-clause-err g c =
    always_err c.from_residual-in_err-empty.result _ (none_asked g.L.Link.exchanges (g.P.Pick.orders c.args.pick.now c.args.turn) c.args.query.now c.args.plan.now c.args.links.now)

pub loop-round-init : goal.loop-round-init
loop-round-init g c = record {
  leading = leading_none g.L.Link.exchanges (g.P.Pick.orders c.args.pick.now c.args.turn) c.args.query.now c.args.plan.now c.new-gathering.result c.args.links.now;
  linked = subst (λ (s : State). AreBelow (length c.args.links.now) s.waiting) (sym c.new-gathering.ensures)
      (below (g.P.Pick.orders c.args.pick.now c.args.turn) (length c.args.links.now) c.args.plan.now c.in_ok-waiting.waiting.items c.requires c.in_ok-waiting.ensures);
  of_query = search rules;
}

pub loop-round-preserved : goal.loop-round-preserved
loop-round-preserved g c = record {
  leading = leading_more g.L.Link.exchanges (g.P.Pick.orders c.args.pick.now c.args.turn) c.args.query.now c.args.plan.now c.new-gathering.result c.loop-round.gathering c.in_ok-gathering.gathering
      c.loop-round.round c.args.links.now c.loop-round.links c.round.new.links c.loop-round.invariant.leading c.in_ok-gathering.ensures.ok;
  linked = c.in_ok-gathering.ensures.linked;
  of_query = c.in_ok-gathering.ensures.of_query;
}

pub returns-in_err-gathering-clause-err : goal.returns-in_err-gathering-clause-err
returns-in_err-gathering-clause-err g c =
    always_err c.from_residual-in_err-gathering.result _
    (leading_err g.L.Link.exchanges (g.P.Pick.orders c.args.pick.now c.args.turn) c.args.query.now c.args.plan.now c.in_ok-waiting.waiting.items c.in_ok-empty.field-0 c.new-gathering.result
    c.loop-round.gathering c.loop-round.round c.args.links.now c.loop-round.links c.round.new.links c.new-gathering.ensures c.in_ok-waiting.ensures c.in_ok-empty.ensures.of_no_rows
    c.loop-round.invariant.leading c.in_err-gathering.ensures.err)

pub returns-clause-err : goal.returns-clause-err
returns-clause-err g c =
    leading_made g.L.Link.exchanges (g.P.Pick.orders c.args.pick.now c.args.turn) c.args.query.now c.args.plan.now c.in_ok-waiting.waiting.items c.in_ok-empty.field-0 c.new-gathering.result
    c.loop-round.gathering c.loop-round.round c.args.links.now c.loop-round.links c.into_answer.result c.new-gathering.ensures c.in_ok-waiting.ensures c.in_ok-empty.ensures.of_no_rows
    c.loop-round.invariant.leading

pub returns-clause-ok : goal.returns-clause-ok
returns-clause-ok g c =
    gathered_all g.L.Link.exchanges (g.P.Pick.orders c.args.pick.now c.args.turn) c.args.query.now c.args.plan.now c.in_ok-waiting.waiting.items c.deref.result.now c.in_ok-empty.field-0
    c.new-gathering.result c.loop-round.gathering c.most_nodes-rounds.result c.loop-round.round c.args.links.now c.loop-round.links c.into_answer.result c.new-gathering.ensures c.in_ok-waiting.ensures
    c.in_ok-empty.ensures.of_no_rows c.deref.ensures.value c.most_nodes-rounds.ensures (omega arith) c.loop-round.invariant.leading c.into_answer.ensures.missing c.into_answer.ensures.partial
