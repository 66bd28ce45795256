use Rattle.std.proofs.Common.{map, sym}
use Rattle.std.specs.Arc.{arc_value}
use Rattle.std.proofs.lemmas.Result.{IfOk-weaker}
use Rattle.druid_inventory.specs.Sources.{Serves}
use Rattle.druid_inventory.proofs.EditLemmas.{copied_entries, AreTimelines-copied}
use Rattle.druid_inventory.proofs.EntryLemmas.{ok_case}
use Rattle.druid_inventory.proofs.TimelineLemmas.{IsInventory-same}
use Rattle.druid_inventory.proofs.inventory.Inventory.copied_timelines.Goals as goal

pub returns : goal.returns
returns c =
    let kept = IsInventory-same (map arc_value (arc_value c.self.inside.entries).items) c.args.self.now (arc_value c.self.inside.timelines) c.deref.result.now
    (sym c.self.view_is) c.deref.ensures c.self.invariant in
    IfOk-weaker c.clone.result _ _
    (λ timelines h. AreTimelines-copied (Serves c.args.self.now) c.deref.result.now timelines (copied_entries c.deref.result.now timelines h) kept.over)
    (ok_case c.clone.result _ _ c.clone.ensures.cases)
