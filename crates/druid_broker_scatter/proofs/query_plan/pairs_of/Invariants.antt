use Rattle.std.proofs.Common.{◌≡◌, All, take}
use Rattle.druid_broker_scatter.specs.Plan.{asked_of}
use Rattle.druid_broker_scatter.specs.Planned.{asked_in, IsServedBy}
use Rattle.druid_broker_scatter.proofs.query_plan.pairs_of.Given as goal

abbrev pub invariant-loop-piece : goal.invariant-loop-piece
invariant-loop-piece l = record {
  asked : asked_of l.pairs.items ≡ asked_in l.source (take l.piece-index l.pieces);
  served : All (IsServedBy l.timeline) l.pairs.items;
}
