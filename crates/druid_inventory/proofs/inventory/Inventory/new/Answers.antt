use Rattle.std.proofs.Common.{map}
use Rattle.std.specs.Arc.{arc_value}
use Rattle.druid_inventory.proofs.TimelineLemmas.{AreTimelinesOf-fresh}
use Rattle.druid_inventory.proofs.inventory.Inventory.new.Goals as goal

pub of-requires-clause-over : goal.of-requires-clause-over
of-requires-clause-over c =
    AreTimelinesOf-fresh c.args.names.items (map arc_value c.in_ok-entries.entries.items) c.new.result c.in_ok-entries.ensures c.new.ensures.empty
