use Rattle.std.proofs.Common.{length}
use Rattle.druid_partial.specs.Partials.{IsPartialFor}
use Rattle.druid_broker_scatter.specs.Pending.{AreBelow}
use Rattle.druid_broker_scatter.proofs.GatherLemmas.{Leading}
use Rattle.druid_broker_scatter.proofs.scatter.gather.Given as goal

abbrev pub invariant-loop-round : goal.invariant-loop-round
invariant-loop-round g l = record {
  leading : Leading g.L.Link.exchanges (g.P.Pick.orders l.pick l.turn) l.query l.plan l.initial.gathering l.round l.gathering l.initial.links l.links;
  linked : AreBelow (length l.links) l.gathering.waiting;
  of_query : IsPartialFor l.query l.gathering.partial;
}
