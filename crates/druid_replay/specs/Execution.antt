-- What each line is answered, and what stands after it.
use Rattle.std.specs.Prelude.{◌≡◌, ◌≤◌, ◌<◌, ◌⊎◌, ◌↔◌, ⊤, ℕ, Bool, IsTrue, List, [], All, length, map, replicate, Option, Some, None, Ok, Err, slice_get, slice_set}
use Rattle.serde_json.specs.Data.{Data}
use Rattle.druid_base.specs.Json.{ReadsAs}
use Rattle.druid_time.specs.Extent.{Extent, Has}
use Rattle.druid_time.specs.Texts.{extent_at}
use Rattle.druid_time.specs.declared.fault.TimeFault.TheVariants as times
use Rattle.druid_segment_id.specs.Names.{IsName}
use Rattle.druid_segment_descriptor.specs.declared.reply.Body.{Body}
use Rattle.druid_timeline.specs.Holding.{Held, members_of}
use Rattle.druid_timeline.specs.Pieces.{Reported, shown_of, ArePiecesIn, ArePartitions}
use Rattle.druid_inventory.specs.Entry.{Entry, fresh}
use Rattle.druid_base.specs.Distinct.{AreDistinct}
use Rattle.druid_inventory.specs.Join.{IsJoin, RefusesJoin, ReportsJoin}
use Rattle.druid_inventory.specs.Step.{StepsAt, Reports}
use Rattle.druid_inventory.specs.declared.fault.ApplyFault.{ApplyFault}
use Rattle.druid_inventory.specs.declared.fault.ApplyFault.TheVariants as steps
use Rattle.druid_inventory.specs.declared.fault.JoinFault.{JoinFault}
use Rattle.druid_inventory.specs.declared.fault.JoinFault.TheVariants as joins
use Rattle.druid_inventory.specs.Sources.{HasSource, IsHoldingOf}
use Rattle.druid_sync_text.specs.Read.{IsRead}
use Rattle.druid_sync_text.specs.declared.fault.SyncFault.{SyncFault}
use Rattle.druid_sync_text.specs.declared.fault.SyncFault.TheVariants as replies
use Rattle.druid_replay.specs.Reasons.{opening_fault, command_fault}
use Rattle.druid_replay.specs.declared.reason.BadLine.{BadLine}
use Rattle.druid_replay.specs.declared.reason.BadLine.TheVariants.{TooLong, NotJson}
use Rattle.druid_replay.specs.Commands.{Opening, Command, reply, lookup, marks, join, equal, opening_at, command_at}
use Rattle.druid_replay.specs.declared.answer.Refusal.{Refusal}
use Rattle.druid_replay.specs.declared.answer.Refusal.TheVariants as refusals
use Rattle.druid_replay.specs.declared.answer.CommandAnswer.{CommandAnswer}
use Rattle.druid_replay.specs.declared.answer.CommandAnswer.TheVariants.{Refused, Taken, Stepped, Found, Marked, Joined, Compared}

-- a list of nodes: each name is one, and none stands twice
abbrev pub AreNodes : List (List ℕ) → Type 0
AreNodes names = All IsName names × AreDistinct names

-- that many brokers over nodes of these names, none of which was synced: a name that is none is refused before one that
-- stands twice
abbrev pub TakesBrokers : Opening → CommandAnswer → Option (List (List Entry)) → Type 0
TakesBrokers o (Refused refusals.BadName) next = (All IsName o.names → ⊥) × (next ≡ None)
TakesBrokers o (Refused refusals.DoubledNode) next =
    All IsName o.names × (AreDistinct o.names → ⊥) × (next ≡ None)
TakesBrokers o (Taken count) next =
    AreNodes o.names × (count ≡ o.count) × (next ≡ Some (replicate o.count (map fresh o.names)))
TakesBrokers o answer next = ⊥

-- what tells that a reply was not read; the value of a line is JSON, and out of memory is not reported
abbrev pub read_refusal : SyncFault → Option Refusal
read_refusal replies.NotJson = None
read_refusal replies.Shape = Some refusals.Shape
read_refusal replies.TooMany = Some refusals.TooMany
read_refusal replies.LengthOfDelta = Some refusals.LengthOfDelta
read_refusal replies.DoubledSegment = Some refusals.DoubledSegment
read_refusal replies.BadPage = Some refusals.BadPage
read_refusal replies.Memory = None

-- what tells that a reply was not applied
abbrev pub not_applied : ApplyFault → Option Refusal
not_applied steps.UnknownNode = Some refusals.UnknownNode
not_applied steps.OtherIncarnation = Some refusals.OtherIncarnation
not_applied steps.Gap = Some refusals.Gap
not_applied (steps.NotStrict index) = Some refusals.NotStrict
not_applied steps.TooMany = Some refusals.TooManySegments
not_applied steps.Conflict = Some refusals.Conflict
not_applied steps.PageConflict = Some refusals.PageConflict
not_applied steps.Memory = None

-- a reply of a node is refused: it is read first, then the node is looked for, and then comes the step
abbrev pub RefusesReply : List Entry → ℕ → Data → Refusal → Type 0
RefusesReply inventory node d refusal =
    ((fault : SyncFault) × IsRead d (Err fault) × (read_refusal fault ≡ Some refusal))
    ⊎ ((body : Body) × IsRead d (Ok body)
    × (fault : ApplyFault) × Reports inventory node body fault × (not_applied fault ≡ Some refusal))

-- the broker takes a reply of a node; a refusal changes nothing
abbrev pub TakesReply : List Entry → ℕ → Data → CommandAnswer → List Entry → Type 0
TakesReply inventory node d (Refused refusal) next = RefusesReply inventory node d refusal × (next ≡ inventory)
TakesReply inventory node d (Stepped mark outcome) next =
    (body : Body) × IsRead d (Ok body) × (new : Entry) × StepsAt inventory node body outcome new
    × (next ≡ slice_set inventory node new) × (mark ≡ new.mark)
TakesReply inventory node d answer next = ⊥

-- these are the visible pieces in an interval of what is held, each with all partitions of its chunk
pub record AreFoundIn (asked : Extent) (held : List Held) (pieces : List Reported) : Type 0 where
  pub shown : ArePiecesIn (Has asked) held (map shown_of pieces)
  pub parts : All (λ piece. ArePartitions (members_of held piece.group) piece.parts) pieces

-- the same of the holding of a source, and none where no node serves a segment of the source
abbrev pub IsFound : List Entry → List ℕ → Extent → List Reported → Type 0
IsFound inventory source asked pieces =
    ((HasSource inventory source → ⊥) × (pieces ≡ []))
    ⊎ (HasSource inventory source
    × (held : List Held) × IsHoldingOf inventory source held × AreFoundIn asked held pieces)

-- what is visible of a source in an interval: the interval is judged before the source
abbrev pub LooksUp : List Entry → List ℕ → List ℕ → CommandAnswer → Type 0
LooksUp inventory interval source (Refused refusals.NotATime) = extent_at interval ≡ Err times.NotATime
LooksUp inventory interval source (Refused refusals.OutOfRange) = extent_at interval ≡ Err times.OutOfRange
LooksUp inventory interval source (Refused refusals.Empty) = extent_at interval ≡ Err times.Empty
LooksUp inventory interval source (Refused refusals.BadName) =
    (asked : Extent) × (extent_at interval ≡ Ok asked) × (IsName source → ⊥)
LooksUp inventory interval source (Found pieces) =
    (asked : Extent) × (extent_at interval ≡ Ok asked) × IsName source × IsFound inventory source asked pieces
LooksUp inventory interval source answer = ⊥

-- what tells that inventories were not joined
abbrev pub not_joined : JoinFault → Option Refusal
not_joined joins.OtherNodes = Some refusals.OtherNodes
not_joined (joins.Conflict node) = Some refusals.OtherSets
not_joined joins.Memory = None

-- of the brokers, one has this inventory
abbrev pub Holds : List (List Entry) → ℕ → List Entry → Type 0
Holds brokers broker inventory = slice_get brokers broker ≡ Some inventory

-- a broker with this inventory becomes the join of it and another; a refusal changes nothing
abbrev pub JoinsInto : List (List Entry) → ℕ → List Entry → List Entry → CommandAnswer → List (List Entry) → Type 0
JoinsInto brokers into own other answer next =
    ((joined : List Entry) × IsJoin own other joined × (answer ≡ Joined into) × (next ≡ slice_set brokers into joined))
    ⊎ ((fault : JoinFault) × RefusesJoin own other fault × (refusal : Refusal) × (not_joined fault ≡ Some refusal)
    × (answer ≡ Refused refusal) × (next ≡ brokers))

-- a command is answered so, and leaves these inventories
abbrev pub Does : List (List Entry) → Command → CommandAnswer → List (List Entry) → Type 0
Does brokers (reply broker node body) answer next =
    (inventory new : List Entry) × Holds brokers broker inventory × TakesReply inventory node body answer new
    × (next ≡ slice_set brokers broker new)
Does brokers (lookup broker interval source) answer next =
    (inventory : List Entry) × Holds brokers broker inventory × LooksUp inventory interval source answer × (next ≡ brokers)
-- of each node, in order, how far its history has been followed
Does brokers (marks broker) answer next =
    (inventory : List Entry) × Holds brokers broker inventory × (answer ≡ Marked (map (λ e. e.mark) inventory)) × (next ≡ brokers)
Does brokers (join from into) answer next =
    (own other : List Entry) × Holds brokers into own × Holds brokers from other × JoinsInto brokers into own other answer next
Does brokers (equal left right) answer next =
    (one other : List Entry) × Holds brokers left one × Holds brokers right other
    × (same : Bool) × (IsTrue same ↔ (one ≡ other)) × (answer ≡ Compared same) × (next ≡ brokers)

-- JSON is answered so, and leaves this: before brokers were taken nothing stands
abbrev pub Answers : Option (List (List Entry)) → Data → CommandAnswer → Option (List (List Entry)) → Type 0
Answers None d answer next = (opening : Opening) × (opening_at d ≡ Some opening) × TakesBrokers opening answer next
Answers (Some brokers) d answer next =
    (command : Command) × (command_at (length brokers) d ≡ Some command)
    × (new : List (List Entry)) × (next ≡ Some new) × Does brokers command answer new

-- JSON is no command here
abbrev pub IsNoCommand : Option (List (List Entry)) → Data → Type 0
IsNoCommand None d = opening_at d ≡ None
IsNoCommand (Some brokers) d = command_at (length brokers) d ≡ None

-- ---- out of memory: no refusal that is seen without allocating holds

-- reading a reply wants it, or the step of one that was read
abbrev pub ReplyWants : List Entry → ℕ → Data → Type 0
ReplyWants inventory node d =
    IsRead d (Err replies.Memory) ⊎ ((body : Body) × IsRead d (Ok body) × Reports inventory node body steps.Memory)

-- a lookup is of an interval and of a name
abbrev pub LookupWants : List ℕ → List ℕ → Type 0
LookupWants interval source = (asked : Extent) × (extent_at interval ≡ Ok asked) × IsName source

-- a comparison wants none
abbrev pub CommandWants : List (List Entry) → Command → Type 0
CommandWants brokers (reply broker node body) =
    (inventory : List Entry) × Holds brokers broker inventory × ReplyWants inventory node body
CommandWants brokers (lookup broker interval source) = LookupWants interval source
CommandWants brokers (marks broker) = ⊤
CommandWants brokers (join from into) =
    (own other : List Entry) × Holds brokers into own × Holds brokers from other × ReportsJoin own other joins.Memory
CommandWants brokers (equal left right) = ⊥

-- carrying a line's JSON out may run out of memory
abbrev pub WantsMemory : Option (List (List Entry)) → Data → Type 0
WantsMemory None d = (opening : Opening) × (opening_at d ≡ Some opening) × AreNodes opening.names
WantsMemory (Some brokers) d =
    (command : Command) × (command_at (length brokers) d ≡ Some command) × CommandWants brokers command

-- the most bytes of a line
abbrev pub max_line : ℕ
max_line = 16777216

-- a line is answered so
abbrev pub IsAnswered : Option (List (List Entry)) → List ℕ → CommandAnswer → Option (List (List Entry)) → Type 0
IsAnswered state line answer next =
    (length line ≤ max_line) × (d : Data) × ReadsAs line d × Answers state d answer next

-- why JSON is no command here
abbrev pub fault_in : Option (List (List Entry)) → Data → BadLine
fault_in None d = opening_fault d
fault_in (Some brokers) d = command_fault (length brokers) d

-- a line ends the run for this reason: it is too long, no JSON, or no command
abbrev pub IsBadFor : Option (List (List Entry)) → List ℕ → BadLine → Type 0
IsBadFor state line bad =
    ((max_line < length line) × (bad ≡ TooLong))
    ⊎ ((length line ≤ max_line) × ((d : Data) → ReadsAs line d → ⊥) × (bad ≡ NotJson))
    ⊎ ((length line ≤ max_line) × (d : Data) × ReadsAs line d × IsNoCommand state d × (bad ≡ fault_in state d))

-- a line ends the run
abbrev pub IsBad : Option (List (List Entry)) → List ℕ → Type 0
IsBad state line = (bad : BadLine) × IsBadFor state line bad
