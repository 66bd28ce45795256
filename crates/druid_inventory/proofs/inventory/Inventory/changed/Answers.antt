use Rattle.std.proofs.Common.{map}
use Rattle.std.specs.Arc.{arc_value}
use Rattle.druid_inventory.specs.Sources.{Serves}
use Rattle.druid_inventory.proofs.ChangeOfTimelineLemmas.{AreTimelines-same}
use Rattle.druid_inventory.proofs.inventory.Inventory.changed.Goals as goal

pub of-requires-clause-over : goal.of-requires-clause-over
of-requires-clause-over c =
    AreTimelines-same (Serves (map arc_value c.args.entries.items)) c.args.timelines c.in_ok-timelines.timelines c.in_ok-timelines.ensures c.requires.over
