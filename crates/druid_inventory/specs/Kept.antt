-- Where a timeline is kept: only proofs use this.
use Rattle.std.specs.Arc.{arc_value}
use Rattle.druid_timeline.specs.Holding.{Serving}
use Rattle.druid_inventory.specs.declared.shared_timeline.Kept.{Kept}
use Rattle.druid_inventory.specs.declared.shared_timeline.Kept.TheVariants.{Shared, Own}

-- the timeline
abbrev pub timeline_in : Kept → Serving
timeline_in (Shared pointer) = arc_value pointer
timeline_in (Own timeline) = timeline
