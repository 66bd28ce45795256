use Rattle.std.proofs.Common.{◌≡◌, All, map, take}
use Rattle.druid_broker_scatter.specs.Pending.{IsOrdered, pieces_of}
use Rattle.druid_broker_scatter.proofs.pending.waiting_for.Given as goal

abbrev pub invariant-loop-pair : goal.invariant-loop-pair
invariant-loop-pair g l = record {
  whole : pieces_of l.waits.items ≡ map (λ p. p.asked) (take l.pair-index l.pairs);
  each : All (IsOrdered (g.P.Pick.orders l.pick l.turn) l.pairs) l.waits.items;
}
