use Rattle.druid_sync_history.proofs.SetLemmas.{remove-is}
use Rattle.druid_sync_history.proofs.segments.Segments.remove.Goals as goal

pub invariant_of-self : goal.invariant_of-self
invariant_of-self c =
    (remove-is c.self.inside.entries.entries c.remove.new.self.entries c.args.segment.now c.id.result.now c.args.self.now c.id.ensures.value c.id.ensures.valid c.self.invariant c.self.view_is c.remove.ensures.entries c.requires).0

pub returns : goal.returns
returns c =
    (remove-is c.self.inside.entries.entries c.remove.new.self.entries c.args.segment.now c.id.result.now c.args.self.now c.id.ensures.value c.id.ensures.valid c.self.invariant c.self.view_is c.remove.ensures.entries c.requires).1
