use Rattle.std.proofs.Common.{◌∙◌}
use Rattle.druid_sync_history.proofs.SetLemmas.{insert-is}
use Rattle.druid_sync_history.proofs.segments.Segments.insert.Goals as goal

pub invariant_of-self-2 : goal.invariant_of-self-2
invariant_of-self-2 c =
    (insert-is c.self.inside.entries.entries c.insert.new.self.entries c.args.segment c.in_ok-id.id c.args.self.now (c.in_ok-id.ensures.cases ∙ c.id.ensures.value) c.id.ensures.valid c.self.invariant c.self.view_is
    c.in_ok-insert.ensures.entries c.requires.strict c.requires.room).0

pub returns-clause-inserted : goal.returns-clause-inserted
returns-clause-inserted c =
    (insert-is c.self.inside.entries.entries c.insert.new.self.entries c.args.segment c.in_ok-id.id c.args.self.now (c.in_ok-id.ensures.cases ∙ c.id.ensures.value) c.id.ensures.valid c.self.invariant c.self.view_is
    c.in_ok-insert.ensures.entries c.requires.strict c.requires.room).1
