-- Which fault is reported: only proofs use these words, and the conversion of faults.
use Rattle.std.specs.Prelude.{Option, is_some, if◌then◌else◌}
use Rattle.druid_segment_descriptor.specs.declared.reply.ReplyFault.{ReplyFault}
use Rattle.druid_segment_descriptor.specs.declared.reply.ReplyFault.TheVariants as replies
use Rattle.druid_sync_text.specs.declared.fault.SyncFault.{SyncFault}
use Rattle.druid_sync_text.specs.declared.fault.SyncFault.TheVariants as faults

-- the fault of the same refusal
abbrev pub of_reply : ReplyFault → SyncFault
of_reply replies.TooMany = faults.TooMany
of_reply replies.LengthOfDelta = faults.LengthOfDelta
of_reply replies.DoubledSegment = faults.DoubledSegment
of_reply replies.BadPage = faults.BadPage
of_reply replies.Memory = faults.Memory

-- the fault where a list was read, and Y2 where one of its items does not read
abbrev pub shape_first : {A : Type 0} → Option A → SyncFault → SyncFault
shape_first list fault = if is_some list then fault else faults.Shape
