-- What each reply keeps.
use Rattle.std.specs.Prelude.{◌≡◌, ◌≤◌, List}
use Rattle.std.specs.List.Sorted.{IsPermutation}
use Rattle.druid_segment_descriptor.specs.Described.{Described}
use Rattle.druid_segment_descriptor.specs.Mark.{Point}
use Rattle.druid_segment_descriptor.specs.Reply.{IsSnapshot, IsPageOf, IsDelta}
use Rattle.druid_segment_descriptor.specs.declared.reply.Body.{Body}
use Rattle.druid_segment_descriptor.specs.declared.reply.Body.TheVariants.{Delta, Snapshot, Page, Reset}

abbrev pub IsReply : Body → Type 0
IsReply (Delta from to changes) = IsDelta from to changes
IsReply (Snapshot at segments) = IsSnapshot at segments
IsReply (Page at page of segments) = (1 ≤ at.incarnation) × IsPageOf page of segments
IsReply (Reset cause at) = 1 ≤ at.incarnation

-- the snapshot of these segments, whatever their order was
abbrev pub IsSnapshotOf : Point → List Described → Body → Type 0
IsSnapshotOf mark given (Delta from to changes) = ⊥
IsSnapshotOf mark given (Snapshot at segments) =
    (at ≡ mark) × IsPermutation given segments × IsSnapshot at segments
IsSnapshotOf mark given (Page at page of segments) = ⊥
IsSnapshotOf mark given (Reset cause at) = ⊥
