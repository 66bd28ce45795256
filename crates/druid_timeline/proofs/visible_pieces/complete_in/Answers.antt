use Rattle.std.proofs.Common.{◌∙◌, ◌++◌, ◌+◌, ◌<◌, ◌≡◌, ◌≤◌, List, [], ◌∷◌, length, drop, get_or, false, sym, ap, subst}
use Rattle.std.proofs.lemmas.Bool.{false≢true}
use Rattle.std.proofs.lemmas.List.{drop_all}
use Rattle.druid_segment_id.specs.Group.{Group}
use Rattle.druid_timeline_members.specs.Members.{IsComplete}
use Rattle.druid_timeline_chunks.specs.Chunks.{Chunk}
use Rattle.druid_timeline.proofs.SkylineLemmas.{borrowed, borrowed_push}
use Rattle.druid_timeline.proofs.SweepLemmas.{drop_next}
use Rattle.druid_timeline.proofs.UnseenLemmas.{AreUnseen, AreUnseen-start, AreUnseen-more, AreUnseen-skip, AreUnseen-end}
use Rattle.druid_timeline.proofs.visible_pieces.complete_in.Goals as goal
use Rattle.druid_timeline.proofs.visible_pieces.complete_in.Goals.{then-is_complete+in_ok-push, else-is_complete}

pub loop-chunk-init : goal.loop-chunk-init
loop-chunk-init c =
    AreUnseen-start (λ (g : Group). false) c.args.chunks.now (borrowed c.new-found.result.items) (ap borrowed c.new-found.ensures.items) c.as_slice-chunk-items.ensures.chunks.once

pub loop-chunk-preserved : goal.loop-chunk-preserved
loop-chunk-preserved c =
    let same = c.as_slice-chunk-items.ensures.value in
    let l = subst (λ (cs : List Chunk). c.loop-chunk.chunk-index < length cs) same c.loop-chunk-test.true in
    let at = subst (λ (cs : List Chunk). c.chunk-item.result ≡ get_or cs c.loop-chunk.chunk-index c.chunk-item.result) same c.chunk-item.is in
    let e = drop_next c.args.chunks.now c.loop-chunk.chunk-index c.chunk-item.result l at in
    let far = subst (λ (rest : List Chunk). AreUnseen (λ (g : Group). false) c.args.chunks.now rest (borrowed c.loop-chunk.found.items)) e c.loop-chunk.invariant in
    elim c.if-is_complete.branch [
      | then-is_complete+in_ok-push w ↦
          let whole = subst IsComplete c.members.ensures (c.is_complete.ensures.0 w.if-is_complete.true) in
          subst (λ (gs : List Group). AreUnseen (λ (g : Group). false) c.args.chunks.now (drop (c.loop-chunk.chunk-index + 1) c.args.chunks.now) gs) (sym (λ i. borrowed (w.found-is i).items))
          (AreUnseen-more (λ (g : Group). false) c.args.chunks.now (drop (c.loop-chunk.chunk-index + 1) c.args.chunks.now) (borrowed c.loop-chunk.found.items) (borrowed w.push.new.self.items) c.chunk-item.result far
          (ap borrowed w.in_ok-push.ensures.items ∙ borrowed_push c.loop-chunk.found.items w.key.result ∙ ap (λ (g : Group). borrowed c.loop-chunk.found.items ++ g ∷ []) w.key.ensures) whole false≢true)
      | else-is_complete w ↦
          subst (λ (gs : List Group). AreUnseen (λ (g : Group). false) c.args.chunks.now (drop (c.loop-chunk.chunk-index + 1) c.args.chunks.now) gs) (sym (λ i. borrowed (w.found-is i).items))
          (AreUnseen-skip (λ (g : Group). false) c.args.chunks.now (drop (c.loop-chunk.chunk-index + 1) c.args.chunks.now) (borrowed c.loop-chunk.found.items) c.chunk-item.result far
          (λ both. false≢true (sym w.if-is_complete.false ∙ c.is_complete.ensures.1 (subst IsComplete (sym c.members.ensures) both.0))))
    ]

pub returns-clause-all : goal.returns-clause-all
returns-clause-all c g =
    let past = subst (λ (cs : List Chunk). length cs ≤ c.loop-chunk.chunk-index) c.as_slice-chunk-items.ensures.value c.loop-chunk-test.false in
    let end = AreUnseen-end (λ (k : Group). false) c.args.chunks.now (borrowed c.loop-chunk.found.items)
    (subst (λ (rest : List Chunk). AreUnseen (λ (k : Group). false) c.args.chunks.now rest (borrowed c.loop-chunk.found.items)) (drop_all c.loop-chunk.chunk-index c.args.chunks.now past) c.loop-chunk.invariant) g in
    (λ there. (end.0 there).0, λ complete. end.1 (complete, false≢true))

pub returns-clause-once : goal.returns-clause-once
returns-clause-once c = c.loop-chunk.invariant.once
