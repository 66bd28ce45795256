use Rattle.std.proofs.Common.{List}
use Rattle.std.specs.Prelude.{Contains}
use Rattle.druid_inventory.specs.Entry.{Entry}
use Rattle.druid_inventory.specs.Timelines.{AreTimelines, ServesThese}
use Rattle.druid_inventory.proofs.ChangeLemmas.{LoadedTo}
use Rattle.druid_inventory.proofs.timelines.load_others.Given as goal

abbrev pub invariant-loop-descriptor : goal.invariant-loop-descriptor
invariant-loop-descriptor l =
    (entries : List Entry) → AreTimelines (ServesThese entries l.node (λ d. Contains l.old d × Contains l.new d)) l.initial.timelines
    → AreTimelines (ServesThese entries l.node (LoadedTo l.old l.new l.descriptor-index)) l.timelines
