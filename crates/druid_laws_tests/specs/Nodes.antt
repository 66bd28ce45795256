-- A data node of this process.
use Rattle.std.specs.Prelude.{◌≤◌, All, length}
use Rattle.druid_segment_descriptor.specs.Described.{IsDescribed}
use Rattle.druid_segment_descriptor.specs.Mark.{Point}
use Rattle.druid_segment_descriptor.specs.Reply.{max_page}
use Rattle.druid_sync_history.specs.Kept.{IsKept}
use Rattle.druid_node.specs.State.{State, IsState}

-- its mark
abbrev pub mark_of : State → Point
mark_of state = record { incarnation = state.history.incarnation; count = state.history.count }

-- what is kept of it: its history, the segments that this says, and their identifiers; one message carries them all
pub record IsNode (state : State) : Type 0 where
  pub holds : IsState state
  pub kept : IsKept state.history
  pub described : All IsDescribed state.history.set
  pub small : length state.history.set ≤ max_page
