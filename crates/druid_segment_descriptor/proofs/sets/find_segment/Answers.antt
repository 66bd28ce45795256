use Rattle.std.proofs.Common.{◌+◌, ◌-◌, ◌/◌, arith, ap, ◌∙◌}
use Rattle.std.specs.Ordering.{nat_cmp}
use Rattle.std.specs.Cmp.Lexicographic.{slice_cmp}
use Rattle.druid_segment_id.specs.Identifier.{Identifier, identifier_text, identifier_cmp}
use Rattle.druid_segment_descriptor.proofs.PlaceLemmas.{IsLeft-above, IsLeft-below, StandsAt-found}
use Rattle.druid_segment_descriptor.proofs.sets.find_segment.Goals as goal

pub loop-low-preserved-in-Less : goal.loop-low-preserved-in-Less
loop-low-preserved-in-Less c =
    IsLeft-above c.args.segments.now c.args.id.now c.loop-low.low c.loop-low.high (c.loop-low.low + (c.loop-low.high - c.loop-low.low) / 2)
    c.index-segments-middle.result c.requires c.loop-low.invariant (omega arith) (omega arith) c.index-segments-middle.is
    (c.in-Less.ensures.texts ∙ ap (λ (i : Identifier). slice_cmp nat_cmp (identifier_text i) (identifier_text c.args.id.now)) c.id-other.ensures.value)

pub returns-in-Equal-clause-found : goal.returns-in-Equal-clause-found
returns-in-Equal-clause-found c =
    let within = c.loop-low.invariant.within in
    StandsAt-found c.args.segments.now c.args.id.now (c.loop-low.low + (c.loop-low.high - c.loop-low.low) / 2) c.index-segments-middle.result
    (omega arith) c.index-segments-middle.is
    (c.in-Equal.ensures.order ∙ ap (λ (i : Identifier). identifier_cmp i c.args.id.now) c.id-other.ensures.value)

pub loop-low-preserved : goal.loop-low-preserved
loop-low-preserved c =
    IsLeft-below c.args.segments.now c.args.id.now c.loop-low.low c.loop-low.high (c.loop-low.low + (c.loop-low.high - c.loop-low.low) / 2)
    c.index-segments-middle.result c.requires c.loop-low.invariant (omega arith) (omega arith) c.index-segments-middle.is
    (c.in-Greater.ensures.texts ∙ ap (λ (i : Identifier). slice_cmp nat_cmp (identifier_text i) (identifier_text c.args.id.now)) c.id-other.ensures.value)
