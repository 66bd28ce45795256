use Rattle.druid_timeline_chunks.proofs.EditLemmas.{if_ok_weaker}
use Rattle.druid_inventory.specs.Sources.{Serves}
use Rattle.druid_inventory.proofs.ChangeOfTimelineLemmas.{AreTimelines-same}
use Rattle.druid_inventory.proofs.inventory.Inventory.changing_timelines.Goals as goal

pub returns : goal.returns
returns c =
    if_ok_weaker c.begin_changes.result _ _ c.begin_changes.ensures
    (λ changing same. AreTimelines-same (Serves c.args.self.now) c.in_ok-timelines.timelines changing same c.in_ok-timelines.ensures)
