use Rattle.std.proofs.Common.{◌∙◌, ◌++◌, ◌+◌, ◌<◌, ◌≡◌, ◌≤◌, List, [], ◌∷◌, length, drop, get_or, sym, ap, subst}
use Rattle.std.specs.HashSet as set
use Rattle.std.proofs.lemmas.Bool.{false≢true}
use Rattle.std.proofs.lemmas.List.{drop_all}
use Rattle.druid_segment_id.specs.Group.{Group, same_group}
use Rattle.druid_timeline_members.specs.Members.{IsComplete}
use Rattle.druid_timeline_chunks.specs.Chunks.{Chunk}
use Rattle.druid_timeline.proofs.SweepLemmas.{drop_next}
use Rattle.druid_timeline.proofs.UnseenLemmas.{AreUnseen, AreUnseen-start, AreUnseen-more, AreUnseen-skip, AreUnseen-end}
use Rattle.druid_timeline.proofs.overshadowed.unseen_in.Goals as goal
use Rattle.druid_timeline.proofs.overshadowed.unseen_in.Goals.{then-is_complete+then-not-contains+in_ok-copy+in_ok-push, else-is_complete, else-is_complete-via-then-is_complete+else-not-contains, else-is_complete-via-else-is_complete}

pub loop-chunk-init : goal.loop-chunk-init
loop-chunk-init c =
    AreUnseen-start (set.contains same_group c.args.seen.now) c.args.chunks.now c.new-unseen.result.items c.new-unseen.ensures.items c.as_slice-chunk-items.ensures.chunks.once

pub loop-chunk-preserved : goal.loop-chunk-preserved
loop-chunk-preserved c =
    let same = c.as_slice-chunk-items.ensures.value in
    let l = subst (λ (cs : List Chunk). c.loop-chunk.chunk-index < length cs) same c.loop-chunk-test.true in
    let at = subst (λ (cs : List Chunk). c.chunk-item.result ≡ get_or cs c.loop-chunk.chunk-index c.chunk-item.result) same c.chunk-item.is in
    let e = drop_next c.args.chunks.now c.loop-chunk.chunk-index c.chunk-item.result l at in
    let far = subst (λ (rest : List Chunk). AreUnseen (set.contains same_group c.args.seen.now) c.args.chunks.now rest c.loop-chunk.unseen.items) e c.loop-chunk.invariant in
    elim c.if-is_complete.branch [
      | then-is_complete+then-not-contains+in_ok-copy+in_ok-push w ↦
          let whole = subst IsComplete c.members.ensures (c.is_complete.ensures.0 w.if-is_complete.true) in
          let copied = w.in_ok-copy.ensures.cases ∙ c.key-key.ensures in
          subst (λ (gs : List Group). AreUnseen (set.contains same_group c.args.seen.now) c.args.chunks.now (drop (c.loop-chunk.chunk-index + 1) c.args.chunks.now) gs) (sym (λ i. (w.unseen-is i).items))
          (AreUnseen-more (set.contains same_group c.args.seen.now) c.args.chunks.now (drop (c.loop-chunk.chunk-index + 1) c.args.chunks.now) c.loop-chunk.unseen.items w.push.new.self.items c.chunk-item.result far
          (w.in_ok-push.ensures.items ∙ ap (λ (g : Group). c.loop-chunk.unseen.items ++ g ∷ []) copied) whole
          (λ seen. false≢true (sym (sym w.contains.ensures ∙ w.if-not-contains.true) ∙ ap (set.contains same_group c.args.seen.now) c.key-key.ensures ∙ seen)))
      | else-is_complete w ↦
          subst (λ (gs : List Group). AreUnseen (set.contains same_group c.args.seen.now) c.args.chunks.now (drop (c.loop-chunk.chunk-index + 1) c.args.chunks.now) gs) (sym (λ i. (w.unseen-is i).items))
          (AreUnseen-skip (set.contains same_group c.args.seen.now) c.args.chunks.now (drop (c.loop-chunk.chunk-index + 1) c.args.chunks.now) c.loop-chunk.unseen.items c.chunk-item.result far
          (λ both. elim w.else-is_complete.branch [
            | else-is_complete-via-then-is_complete+else-not-contains w' ↦ both.1 (ap (set.contains same_group c.args.seen.now) (sym c.key-key.ensures) ∙ sym w'.contains.ensures ∙ w'.if-not-contains.false)
            | else-is_complete-via-else-is_complete w' ↦ false≢true (sym w'.if-is_complete.false ∙ c.is_complete.ensures.1 (subst IsComplete (sym c.members.ensures) both.0))
          ]))
    ]

pub returns-clause-all : goal.returns-clause-all
returns-clause-all c =
    let past = subst (λ (cs : List Chunk). length cs ≤ c.loop-chunk.chunk-index) c.as_slice-chunk-items.ensures.value c.loop-chunk-test.false in
    AreUnseen-end (set.contains same_group c.args.seen.now) c.args.chunks.now c.loop-chunk.unseen.items
    (subst (λ (rest : List Chunk). AreUnseen (set.contains same_group c.args.seen.now) c.args.chunks.now rest c.loop-chunk.unseen.items) (drop_all c.loop-chunk.chunk-index c.args.chunks.now past) c.loop-chunk.invariant)
