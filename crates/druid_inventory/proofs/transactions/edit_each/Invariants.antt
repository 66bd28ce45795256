use Rattle.std.proofs.Common.{◌≡◌, List, take, Some}
use Rattle.druid_segment_descriptor.specs.Described.{Described}
use Rattle.druid_segment_descriptor.specs.Replay.{IsSegmentSet, replay_from}
use Rattle.druid_inventory.specs.Entry.{Entry}
use Rattle.druid_inventory.specs.Transactions.{AreAfter, KeepsBefore}
use Rattle.druid_inventory.proofs.transactions.edit_each.Given as goal

abbrev pub invariant-loop-change : goal.invariant-loop-change
invariant-loop-change l = record {
  after : (entries : List Entry) (s t : List Described) → IsSegmentSet s → replay_from s l.changes ≡ Some t
      → AreAfter entries l.node s l.initial.timelines l.initial.edits
      → (u : List Described) × (replay_from s (take l.change-index l.changes) ≡ Some u) × AreAfter entries l.node u l.timelines l.edits;
  before : KeepsBefore l.initial.timelines l.initial.edits l.timelines l.edits;
}
