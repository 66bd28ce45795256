use Rattle.std.proofs.Common.{◌≤◌, Contains, length, take}
use Rattle.druid_broker_scatter.specs.Pending.{PendingSlice}
use Rattle.druid_broker_scatter.proofs.pending.most_nodes.Given as goal

abbrev pub invariant-loop-piece : goal.invariant-loop-piece
invariant-loop-piece l = (w : PendingSlice) → Contains (take l.piece-index l.waiting) w → length w.order ≤ l.most
