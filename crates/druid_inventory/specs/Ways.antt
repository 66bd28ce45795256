-- How a timeline changes: only proofs use this.
use Rattle.druid_timeline.specs.Holding.{Serving}
use Rattle.druid_inventory.specs.declared.changing_timeline.Way.{Way}
use Rattle.druid_inventory.specs.declared.changing_timeline.Way.TheVariants.{Edited, Swept}

-- the timeline that changes
abbrev pub serving_in : Way → Serving
serving_in (Edited timeline) = timeline
serving_in (Swept holding) = holding
