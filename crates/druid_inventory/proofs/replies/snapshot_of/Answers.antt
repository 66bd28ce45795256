use Rattle.std.proofs.Common.{Err, ap, ◌∙◌}
use Rattle.druid_segment_descriptor.proofs.SortedLemmas.{AreSorted-own}
use Rattle.druid_inventory.proofs.EntryLemmas.{snapshot_is}
use Rattle.druid_inventory.proofs.replies.snapshot_of.Goals as goal

pub unreachable-requires-in-Err-DoubledSegment :
    goal.unreachable-requires-in-Err-DoubledSegment
unreachable-requires-in-Err-DoubledSegment c =
    (c.snapshot.ensures.doubled.0 (c.in-Err-DoubledSegment.is ∙ ap Err c.in-Err-DoubledSegment.field-0-is)).1
    (AreSorted-own c.args.set.items c.requires.set.sorted)

pub returns : goal.returns
returns c = snapshot_is c.args.at c.args.set.items c.in-Ok.reply c.requires.set.sorted c.in-Ok.ensures.ok
