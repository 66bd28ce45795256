use Rattle.druid_sync_history.proofs.SetLemmas.{lacks-is}
use Rattle.druid_sync_history.proofs.segments.Segments.lacks.Goals as goal

pub returns : goal.returns
returns c =
    lacks-is c.self.inside.entries.entries c.args.segment.now c.id.result.now c.args.self.now c.contains_key.result c.id.ensures.value c.id.ensures.valid c.self.invariant c.self.view_is c.contains_key.ensures
