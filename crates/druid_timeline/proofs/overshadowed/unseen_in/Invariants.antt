use Rattle.std.proofs.Common.{drop}
use Rattle.std.specs.HashSet as set
use Rattle.druid_segment_id.specs.Group.{same_group}
use Rattle.druid_timeline.proofs.UnseenLemmas.{AreUnseen}
use Rattle.druid_timeline.proofs.overshadowed.unseen_in.Given as goal

abbrev pub invariant-loop-chunk : goal.invariant-loop-chunk
invariant-loop-chunk l = AreUnseen (set.contains same_group l.seen) l.chunks (drop l.chunk-index l.chunks) l.unseen.items
