use Rattle.std.proofs.Common.{map, take}
use Rattle.druid_segment_id.specs.Group.{group_of}
use Rattle.druid_timeline_chunks.specs.Chunks.{AreOverlapsOf}
use Rattle.druid_timeline_chunks.proofs.overlap.add_overlaps.Given as goal

abbrev pub invariant-loop-i : goal.invariant-loop-i
invariant-loop-i l = AreOverlapsOf (take l.i l.items) (group_of l.id) l.part (map (λ key. key.now) l.found.items)
