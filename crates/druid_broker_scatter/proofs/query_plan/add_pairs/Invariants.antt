use Rattle.std.proofs.Common.{◌≡◌, ◌++◌, All, map, take}
use Rattle.druid_broker_scatter.specs.Plan.{asked_of}
use Rattle.druid_broker_scatter.specs.Planned.{asked_at, IsServedBy}
use Rattle.druid_broker_scatter.proofs.query_plan.add_pairs.Given as goal

abbrev pub invariant-loop-partition : goal.invariant-loop-partition
invariant-loop-partition l = record {
  asked : asked_of l.pairs.items ≡ asked_of l.initial.pairs.items ++ map (asked_at l.source l.piece) (take l.partition-index l.piece.parts);
  served : All (IsServedBy l.timeline) l.initial.pairs.items → All (IsServedBy l.timeline) l.pairs.items;
}
