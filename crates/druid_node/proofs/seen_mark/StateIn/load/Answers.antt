use Rattle.std.proofs.Common.{subst}
use Rattle.druid_segment_descriptor.specs.declared.change.Change.TheVariants.{Load}
use Rattle.druid_node.specs.State.{State, Records}
use Rattle.druid_node.proofs.SeenLemmas.{raised}
use Rattle.druid_node.proofs.seen_mark.StateIn.load.Goals as goal

pub returns-clause-raised : goal.returns-clause-raised
returns-clause-raised g c =
    let records = subst (λ (s : State). Records s.history c.load.new.self.history (Load c.args.segment.descriptor)) c.self.view_is c.in_ok-load.ensures.ok.records in
    raised c.args.self.now c.load.new.self (Load c.args.segment.descriptor) c.args.seen.now c.mark.result c.in_ok-mark_as_seen.ensures.kept c.in_ok-mark_as_seen.ensures.ok.1 records c.mark.ensures.value
