use Rattle.druid_partial_scan.proofs.KeyLemmas.{borrowed_tied}
use Rattle.druid_partial_scan.proofs.key.KeyRefOrd.cmp.Goals as goal

pub returns-in-Equal : goal.returns-in-Equal
returns-in-Equal c =
    rw (← c.self.view_is, ← c.other.view_is) (borrowed_tied c.self.inside.bucket c.other.inside.bucket c.self.inside.values.items c.other.inside.values.items c.cmp.result _ c.cmp.ensures c.in-Equal.is c.cmp-in-Equal.ensures)
