use Rattle.std.proofs.Common.{List}
use Rattle.druid_inventory.specs.Entry.{Entry}
use Rattle.druid_inventory.specs.Timelines.{AreTimelines, ServesThese, ServesWith}
use Rattle.druid_inventory.proofs.ChangeLemmas.{LeftTo}
use Rattle.druid_inventory.proofs.timelines.drop_others.Given as goal

abbrev pub invariant-loop-descriptor : goal.invariant-loop-descriptor
invariant-loop-descriptor l =
    (entries : List Entry) → AreTimelines (ServesWith entries l.node l.old) l.initial.timelines
    → AreTimelines (ServesThese entries l.node (LeftTo l.old l.new l.descriptor-index)) l.timelines
