use Rattle.std.proofs.Common.{◌≡◌, ◌<◌, ◌≤◌, ℕ, get_or, sym, ap, ◌∙◌, subst}
use Rattle.std.proofs.lemmas.List.{get_or_default}
use Rattle.std.specs.List.{AllWithin}
use Rattle.druid_time.specs.Extent.{IsExtent}
use Rattle.druid_segment_id.specs.Group.{Group}
use Rattle.druid_timeline_chunks.specs.Chunks.{Chunk}
use Rattle.druid_timeline_chunks.specs.Places.{chunk_place, place_of}
use Rattle.druid_timeline_chunks.proofs.OrderLemmas.{absent, no_later, stands_after, reported_apart}
use Rattle.druid_timeline_chunks.proofs.order.seek.Goals as goal

pub returns-then-ne-clause-absent : goal.returns-then-ne-clause-absent
returns-then-ne-clause-absent c =
    let g : Group = record { interval = c.args.interval; version = c.args.version.now } in
    let own = c.index-items-i.result in
    let interval : c.interval.result ≡ own.0.interval = c.interval.ensures.value ∙ ap (λ (h : Group). h.interval) c.key-key.ensures in
    let other : (own.0.interval ≡ c.args.interval → ⊥) = λ same. reported_apart c.interval.result c.args.interval c.ne.result c.ne.ensures c.if-ne.true (interval ∙ same) in
    let before = subst (λ (n : ℕ). AllWithin (λ chunk. chunk_place chunk < n) c.args.items.now 0 c.first_from-first.result) c.of.ensures.value c.first_from-first.ensures.before in
    let from = subst (λ (n : ℕ). n ≤ chunk_place (get_or c.args.items.now c.loop-i.i own)) c.of.ensures.value (c.first_from-first.ensures.after c.loop-i.i own c.loop-i.auto.i c.loop-i-test.true) in
    let here : get_or c.args.items.now c.loop-i.i own ≡ own = sym c.index-items-i.is in
    let after = stands_after own c.args.interval (subst (λ (h : Group). IsExtent h.interval) c.key-key.ensures c.interval.ensures.valid.interval) c.of.ensures.valid (subst (λ (x : Chunk). place_of c.args.interval ≤ chunk_place x) here from) other in
    absent c.args.items.now c.first_from-first.result c.loop-i.i g c.requires before c.loop-i.invariant
    (λ l d. subst (λ (x : Chunk). place_of c.args.interval < chunk_place x) (sym here ∙ get_or_default c.args.items.now c.loop-i.i own d l) after)

pub returns-then-ne-clause-before : goal.returns-then-ne-clause-before
returns-then-ne-clause-before c =
    let g : Group = record { interval = c.args.interval; version = c.args.version.now } in
    let before = subst (λ (n : ℕ). AllWithin (λ chunk. chunk_place chunk < n) c.args.items.now 0 c.first_from-first.result) c.of.ensures.value c.first_from-first.ensures.before in
    no_later c.args.items.now c.first_from-first.result c.loop-i.i g before c.loop-i.invariant
