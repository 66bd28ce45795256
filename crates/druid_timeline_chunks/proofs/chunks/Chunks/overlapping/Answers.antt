use Rattle.std.proofs.Common.{List, map, subst}
use Rattle.std.specs.Result.{IfOk}
use Rattle.druid_segment_id.specs.Group.{group_of}
use Rattle.druid_timeline_chunks.specs.Chunks.{Chunk, AreOverlapsOf}
use Rattle.druid_timeline_chunks.proofs.EditLemmas.{if_ok_weaker}
use Rattle.druid_timeline_chunks.proofs.chunks.Chunks.overlapping.Goals as goal

pub returns-clause-all : goal.returns-clause-all
returns-clause-all c =
    if_ok_weaker c.overlaps_in.result _ _ (subst (λ (xs : List Chunk). IfOk c.overlaps_in.result (λ found. AreOverlapsOf xs (group_of c.args.id.now) c.args.part (map (λ key. key.now) found.items))) c.ordered.ensures.value c.overlaps_in.ensures) (λ found h g. h.all g)
