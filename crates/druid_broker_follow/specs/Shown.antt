-- What a turn showed of a node's marks.
use Rattle.std.specs.Prelude.{ℕ, List, codes, Option, option_map, slice_get, Result, Ok, Err}
use Rattle.druid_segment_descriptor.specs.Mark.{Point}
use Rattle.druid_segment_descriptor.specs.declared.reply.Body.{Body}
use Rattle.druid_segment_descriptor.specs.declared.reply.Body.TheVariants.{Delta, Snapshot, Page, Reset}
use Rattle.druid_inventory.specs.Entry.{Entry}
use Rattle.druid_inventory.specs.declared.fault.Outcome.{Outcome}
use Rattle.druid_inventory.specs.declared.fault.Outcome.TheVariants.{Moved, AlreadyHave, AskWhole, AskPages}
use Rattle.druid_broker_follow.specs.declared.fault.TurnFault.{TurnFault}
use Rattle.druid_broker_follow.specs.declared.fault.TurnFault.TheVariants as turn
use Rattle.druid_broker_follow.specs.declared.observer.Marks.{Marks}

-- the mark of the node once its reply is applied; of a reset the one that it has
abbrev pub shown_by : Body → Point
shown_by (Delta from to changes) = to
shown_by (Snapshot at segments) = at
shown_by (Page at page of segments) = at
shown_by (Reset cause at) = at

-- the mark that is held of a node, and the one that its reply shows
abbrev pub marks_at : List Entry → ℕ → Body → Option Marks
marks_at inventory node reply = option_map (λ (e : Entry). record { held = e.mark; shown = shown_by reply }) (slice_get inventory node)

-- how a turn ends
abbrev pub turn_end : Result Outcome TurnFault → List ℕ
turn_end (Ok Moved) = codes "Moved"
turn_end (Ok AlreadyHave) = codes "AlreadyHave"
turn_end (Ok AskWhole) = codes "AskWhole"
turn_end (Ok AskPages) = codes "AskPages"
turn_end (Err (turn.Wire fault)) = codes "K1"
turn_end (Err (turn.Reply fault)) = codes "K2"
turn_end (Err (turn.Apply fault)) = codes "K3"
turn_end (Err (turn.Status status)) = codes "K4"
turn_end (Err turn.PageLost) = codes "K5"
turn_end (Err turn.NoReading) = codes "K6"
turn_end (Err turn.Memory) = codes "K9"
