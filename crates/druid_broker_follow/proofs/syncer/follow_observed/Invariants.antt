use Rattle.std.proofs.Common.{◌≡◌, ◌≤◌, List, length}
use Rattle.druid_broker_follow.specs.Turns.{Turn, MakesTurns, failures}
use Rattle.druid_broker_follow.proofs.syncer.follow_observed.Given as goal

abbrev pub invariant-loop-turn : goal.invariant-loop-turn
invariant-loop-turn g l = record {
  turns : (gave : List Turn) × MakesTurns g.L.Link.exchanges g.J.Publication.opening l.node gave l.initial.view l.view l.initial.link l.link × (length gave ≡ l._turn) × (failures gave ≡ l.failed);
  few : l.failed ≤ l._turn;
}
