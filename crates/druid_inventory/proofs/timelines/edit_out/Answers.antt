use Rattle.std.proofs.Common.{ap, sym, subst, ◌∙◌}
use Rattle.std.specs.Option.{is_some}
use Rattle.druid_segment_id.specs.Identifier.{Identifier}
use Rattle.druid_timeline.specs.Holding.{RemovesHeld}
use Rattle.druid_inventory.proofs.EditLemmas.{EditsOut-edited}
use Rattle.druid_inventory.proofs.timelines.edit_out.Goals as goal

pub returns : goal.returns
returns c =
    let same = c.source-source.ensures.value ∙ ap (λ (id : Identifier). id.source) c.id.ensures.value in
    let writes = (c.get_mut.follows.holds c.remove.new.self).3 (ap is_some (sym c.in-Some.ensures.value)) in
    EditsOut-edited c.args.timelines.now (c.get_mut.follows.lender c.remove.new.self) c.source-source.result.now c.in-Some.timeline.now c.remove.new.self
    c.args.node c.args.descriptor.now c.is_empty.result same c.in-Some.ensures.value c.requires writes
    (subst (RemovesHeld c.in-Some.timeline.now.held c.remove.new.self.held c.args.node) c.id-in-Some.ensures.value c.in_ok-remove-in-Some.ensures.removed)
    c.in_ok-remove-in-Some.ensures.source c.is_empty.ensures
