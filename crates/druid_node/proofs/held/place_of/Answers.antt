use Rattle.std.proofs.Common.{◌+◌, ◌-◌, ◌/◌, map, arith, ap, ◌∙◌}
use Rattle.std.specs.Arc.{arc_value}
use Rattle.std.specs.Ordering.{nat_cmp}
use Rattle.std.specs.Cmp.Lexicographic.{slice_cmp}
use Rattle.druid_segment_id.specs.Identifier.{Identifier, identifier_text, identifier_cmp}
use Rattle.druid_segment_descriptor.specs.Described.{Described}
use Rattle.druid_segment_descriptor.proofs.PlaceLemmas.{IsLeft-above, IsLeft-below, StandsAt-found}
use Rattle.druid_node.specs.State.{descriptors_of}
use Rattle.druid_node.proofs.PlaceLemmas.{described_at}
use Rattle.druid_node.proofs.held.place_of.Goals as goal

pub loop-low-preserved-in-Less : goal.loop-low-preserved-in-Less
loop-low-preserved-in-Less c =
    let xs = map arc_value c.args.segments.now in
    let s = c.segment_at.result.now in
    let id = c.id.ensures.value ∙ ap (λ (d : Described). d.id) c.descriptor-descriptor.ensures.value in
    IsLeft-above (descriptors_of xs) c.args.id.now c.loop-low.low c.loop-low.high (c.loop-low.low + (c.loop-low.high - c.loop-low.low) / 2)
    s.descriptor c.requires c.loop-low.invariant (omega arith) (omega arith) (described_at xs _ s c.segment_at.ensures)
    (c.in-Less.ensures.texts ∙ ap (λ (i : Identifier). slice_cmp nat_cmp (identifier_text i) (identifier_text c.args.id.now)) id)

pub returns-in-Equal-clause-found : goal.returns-in-Equal-clause-found
returns-in-Equal-clause-found c =
    let xs = map arc_value c.args.segments.now in
    let s = c.segment_at.result.now in
    let within = c.loop-low.invariant.within in
    let id = c.id.ensures.value ∙ ap (λ (d : Described). d.id) c.descriptor-descriptor.ensures.value in
    StandsAt-found (descriptors_of xs) c.args.id.now (c.loop-low.low + (c.loop-low.high - c.loop-low.low) / 2)
    s.descriptor (omega arith) (described_at xs _ s c.segment_at.ensures)
    (c.in-Equal.ensures.order ∙ ap (λ (i : Identifier). identifier_cmp i c.args.id.now) id)

pub loop-low-preserved : goal.loop-low-preserved
loop-low-preserved c =
    let xs = map arc_value c.args.segments.now in
    let s = c.segment_at.result.now in
    let id = c.id.ensures.value ∙ ap (λ (d : Described). d.id) c.descriptor-descriptor.ensures.value in
    IsLeft-below (descriptors_of xs) c.args.id.now c.loop-low.low c.loop-low.high (c.loop-low.low + (c.loop-low.high - c.loop-low.low) / 2)
    s.descriptor c.requires c.loop-low.invariant (omega arith) (omega arith) (described_at xs _ s c.segment_at.ensures)
    (c.in-Greater.ensures.texts ∙ ap (λ (i : Identifier). slice_cmp nat_cmp (identifier_text i) (identifier_text c.args.id.now)) id)
