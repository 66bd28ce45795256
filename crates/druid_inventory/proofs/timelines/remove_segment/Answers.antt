use Rattle.std.proofs.Common.{ap, ◌∙◌}
use Rattle.druid_segment_id.specs.Identifier.{Identifier}
use Rattle.druid_inventory.proofs.EditLemmas.{RemovesSegment-some, RemovesSegment-none}
use Rattle.druid_inventory.proofs.timelines.remove_segment.Goals as goal

pub returns-then-not-is_empty : goal.returns-then-not-is_empty
returns-then-not-is_empty c =
    RemovesSegment-some c.args.timelines.now c.edit_out.new.timelines c.args.node c.args.descriptor.now c.in_ok-is_empty.is_empty
    c.if-not-is_empty.true c.in_ok-is_empty.ensures

pub returns : goal.returns
returns c =
    let same = c.source-source.ensures.value ∙ ap (λ (id : Identifier). id.source) c.id.ensures.value in
    RemovesSegment-none c.args.timelines.now c.edit_out.new.timelines c.remove.new.self c.source-source.result.now c.args.node c.args.descriptor.now
    c.in_ok-is_empty.is_empty c.if-not-is_empty.false c.in_ok-is_empty.ensures same c.remove.ensures.updates
