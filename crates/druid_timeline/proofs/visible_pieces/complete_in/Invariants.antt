use Rattle.std.proofs.Common.{drop, false}
use Rattle.druid_segment_id.specs.Group.{Group}
use Rattle.druid_timeline.proofs.SkylineLemmas.{borrowed}
use Rattle.druid_timeline.proofs.UnseenLemmas.{AreUnseen}
use Rattle.druid_timeline.proofs.visible_pieces.complete_in.Given as goal

abbrev pub invariant-loop-chunk : goal.invariant-loop-chunk
invariant-loop-chunk l = AreUnseen (λ (g : Group). false) l.chunks (drop l.chunk-index l.chunks) (borrowed l.found.items)
