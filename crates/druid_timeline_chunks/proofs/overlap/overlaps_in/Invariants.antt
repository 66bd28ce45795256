use Rattle.std.proofs.Common.{◌≤◌, ◌-◌, length, map, take}
use Rattle.druid_segment_id.specs.Group.{group_of}
use Rattle.druid_timeline_chunks.specs.Chunks.{AreOverlapsOf}
use Rattle.druid_timeline_chunks.proofs.overlap.overlaps_in.Given as goal

abbrev pub invariant-loop-from : goal.invariant-loop-from
invariant-loop-from l = record {
  within : l.from ≤ length l.items;
  found : AreOverlapsOf (take l.from l.items) (group_of l.id) l.part (map (λ key. key.now) l.found.items);
}

abbrev pub decreases-loop-from : goal.decreases-loop-from
decreases-loop-from l = length l.items - l.from
