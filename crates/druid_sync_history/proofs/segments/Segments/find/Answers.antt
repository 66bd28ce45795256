use Rattle.std.specs.Option.{option_copied}
use Rattle.druid_sync_history.proofs.SetLemmas.{find-is}
use Rattle.druid_sync_history.proofs.segments.Segments.find.Goals as goal

pub returns-clause-value : goal.returns-clause-value
returns-clause-value c =
    find-is c.self.inside.entries.entries c.args.id.now c.args.self.now (option_copied c.get.result) c.self.invariant c.self.view_is c.get.ensures.value
