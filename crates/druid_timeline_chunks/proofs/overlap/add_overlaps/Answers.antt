use Rattle.std.proofs.Common.{◌≡◌, ◌∙◌, ◌++◌, ◌+◌, ◌<◌, ℕ, [], ◌∷◌, length, map, take, sym, ap, subst, arith}
use Rattle.std.proofs.lemmas.Bool.{false≢true}
use Rattle.std.proofs.lemmas.List.{map-append}
use Rattle.druid_segment_id.specs.Group.{Group, group_of}
use Rattle.druid_timeline_chunks.specs.Chunks.{AreOverlapsOf}
use Rattle.druid_timeline_chunks.proofs.OverlapLemmas.{added, one_passed_by}
use Rattle.druid_timeline_chunks.proofs.overlap.add_overlaps.Goals as goal

pub loop-i-preserved-then-not-is_overlap : goal.loop-i-preserved-then-not-is_overlap
loop-i-preserved-then-not-is_overlap c =
    let within : c.loop-i.i < length c.args.items.now = omega (arith, c.loop-i-test.true, c.requires.end) in
    one_passed_by c.args.items.now c.loop-i.i c.index-items-i.result (group_of c.args.id.now) c.args.part (map (λ key. key.now) c.loop-i.found.items) within (sym c.index-items-i.is) (λ over. false≢true (sym c.if-not-is_overlap.true ∙ c.is_overlap.ensures.1 over)) c.loop-i.invariant

pub loop-i-preserved : goal.loop-i-preserved
loop-i-preserved c =
    let within : c.loop-i.i < length c.args.items.now = omega (arith, c.loop-i-test.true, c.requires.end) in
    let keys = map (λ key. key.now) c.loop-i.found.items in
    let more : map (λ key. key.now) c.push.new.self.items ≡ keys ++ c.index-items-i.result.0 ∷ [] =
    ap (map (λ key. key.now)) c.in_ok-push.ensures.items ∙ map-append (λ key. key.now) c.loop-i.found.items (c.key.result ∷ []) ∙ ap (λ (k : Group). keys ++ k ∷ []) c.key.ensures in
    subst (AreOverlapsOf (take (c.loop-i.i + 1) c.args.items.now) (group_of c.args.id.now) c.args.part) (sym more)
    (added c.args.items.now c.loop-i.i c.index-items-i.result (group_of c.args.id.now) c.args.part keys c.requires.ordered.are within (sym c.index-items-i.is) (c.is_overlap.ensures.0 c.if-not-is_overlap.false) c.loop-i.invariant)

pub returns : goal.returns
returns c =
    let reached = c.loop-i.auto.i-end c.requires.order in
    let e : c.loop-i.i ≡ c.args.high = omega (arith, reached, c.loop-i-test.false) in
    subst (λ (k : ℕ). AreOverlapsOf (take k c.args.items.now) (group_of c.args.id.now) c.args.part (map (λ key. key.now) c.loop-i.found.items)) e c.loop-i.invariant
