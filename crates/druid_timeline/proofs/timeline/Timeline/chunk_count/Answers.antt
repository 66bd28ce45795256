use Rattle.std.proofs.Common.{◌∙◌, List, length, sym, ap, subst}
use Rattle.std.specs.Map.{keys_of}
use Rattle.std.proofs.lemmas.List.{length-map}
use Rattle.druid_timeline_chunks.specs.Chunks.{Chunk}
use Rattle.druid_timeline.specs.Holding.{Held, Serving, AreGroupsOf}
use Rattle.druid_timeline.proofs.WholeLemmas.{groups_held}
use Rattle.druid_timeline.proofs.timeline.Timeline.chunk_count.Goals as goal

pub returns : goal.returns
returns c =
    let cs = c.self.inside.chunks in (
      keys_of cs,
      subst (λ (hs : List Held). AreGroupsOf hs (keys_of cs)) (ap (λ (s : Serving). s.held) c.self.view_is) (groups_held cs c.as_slice.ensures.chunks),
      ap length c.as_slice.ensures.value ∙ sym (length-map cs (λ (x : Chunk). x.0)),
    )
