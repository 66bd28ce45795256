use Rattle.std.proofs.Common.{List}
use Rattle.druid_broker_follow.specs.Turns.{Turn, MakesTurns}
use Rattle.druid_broker_follow.proofs.syncer.follow_on_observed.Given as goal

abbrev pub invariant-loop : goal.invariant-loop
invariant-loop g l = (gave : List Turn) × MakesTurns g.L.Link.exchanges g.J.Publication.opening l.node gave l.initial.view l.view l.initial.link l.link
