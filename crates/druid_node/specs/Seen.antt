-- What was seen of a node: a caller keeps the mark of the last state that answered it.
use Rattle.std.specs.Prelude.{◌≡◌, ◌≢◌, ◌⊎◌, ⊤, ℕ, List, Option, Some, IfSome}
use Rattle.std.specs.declared.cmp.Ordering.TheVariants.{Less, Greater}
use Rattle.druid_segment_id.specs.Identifier.{Identifier}
use Rattle.druid_segment_descriptor.specs.Described.{Described}
use Rattle.druid_segment_descriptor.specs.Mark.{Point, mark_cmp}
use Rattle.druid_sync_history.specs.Kept.{IsKept, described_named}
use Rattle.druid_sync_history.specs.declared.fault.HistoryFault.{HistoryFault}
use Rattle.druid_sync_history.specs.declared.fault.HistoryFault.TheVariants.{Served, NotServed, Full, CountAtEnd}
use Rattle.druid_sync_history.specs.declared.fault.HistoryFault.TheVariants as history
use Rattle.druid_http_message.specs.Requests.{RequestValue}
use Rattle.druid_http_wire.specs.Messages.{IsRequest}
use Rattle.druid_http_wire.specs.Served.{IsServed, FailsToServe}
use Rattle.druid_http_message.specs.declared.fault.WireFault.{WireFault}
use Rattle.druid_node.specs.State.{State, IsState, Leaves, Freezes}
use Rattle.druid_node.specs.Routes.{RespondsInTurn}
use Rattle.druid_node.specs.declared.fault.NodeFault.{NodeFault}
use Rattle.druid_node.specs.declared.fault.NodeFault.TheVariants as faults

-- the mark of a state
abbrev pub mark_of : State → Point
mark_of state = record { incarnation = state.history.incarnation; count = state.history.count }

-- the mark that was found is of that incarnation, and below the one that was seen
abbrev pub IsStale : ℕ → Point → Point → Type 0
IsStale incarnation found seen = (found.incarnation ≡ incarnation) × (mark_cmp found seen ≡ Less)

-- the state is not older than what was seen
abbrev pub IsAtLeast : Point → Point → Type 0
IsAtLeast found seen = mark_cmp found seen ≢ Less

-- N8, exactly where the state is older than what was seen, and else why the state refuses
abbrev pub RefusesAsSeen : ℕ → (NodeFault → Type 0) → Point → Point → NodeFault → Type 0
RefusesAsSeen incarnation Why found seen fault =
    (IsStale incarnation found seen × (fault ≡ faults.Stale found)) ⊎ (IsAtLeast found seen × Why fault)

-- a node of that incarnation made a change, in a state not older than what was seen before; what is seen after is its mark then
pub record Changes (incarnation : ℕ) (Made : State → State → Type 0) (before after : Point) : Type 0 where
  pub old : State
  pub new : State
  pub valid : IsState old
  pub kept : IsKept old.history
  pub own : old.history.incarnation ≡ incarnation
  pub as_seen : IsAtLeast (mark_of old) before
  pub made : Made old new
  pub marked : after ≡ mark_of new

-- a node of that incarnation did not make a change: its state was older than what was seen, or why it refuses it
abbrev pub RefusesChange : ℕ → (State → NodeFault → Type 0) → Point → NodeFault → Type 0
RefusesChange incarnation Why seen fault =
    (old : State) × IsState old × IsKept old.history × (old.history.incarnation ≡ incarnation)
    × RefusesAsSeen incarnation (Why old) (mark_of old) seen fault

-- what is served under the identifier was dropped
abbrev pub Drops : State → State → Identifier → Type 0
Drops old new id = (d : Described) × (described_named id old.history.set ≡ Some d) × Leaves old new d

-- a load is refused for what is served, or for the count
abbrev pub IsLoadRefusal : HistoryFault → Type 0
IsLoadRefusal Served = ⊤
IsLoadRefusal NotServed = ⊥
IsLoadRefusal Full = ⊤
IsLoadRefusal CountAtEnd = ⊤
IsLoadRefusal history.Memory = ⊥

-- why a segment was not loaded into a node of that incarnation, of which that mark was seen
abbrev pub RefusesLoad : ℕ → Point → NodeFault → Type 0
RefusesLoad incarnation seen faults.Device = ⊥
RefusesLoad incarnation seen (faults.File fault) = ⊥
RefusesLoad incarnation seen faults.NameDiffers = ⊥
RefusesLoad incarnation seen (faults.History fault) = IsLoadRefusal fault
RefusesLoad incarnation seen (faults.Wire fault) = ⊥
RefusesLoad incarnation seen faults.NoFile = ⊥
RefusesLoad incarnation seen (faults.Stale found) = IsStale incarnation found seen
RefusesLoad incarnation seen faults.NotPartitionZero = ⊥
RefusesLoad incarnation seen faults.Memory = ⊤

-- why nothing was dropped from a node of that incarnation, of which that mark was seen
abbrev pub RefusesDrop : ℕ → Point → NodeFault → Type 0
RefusesDrop incarnation seen faults.Device = ⊥
RefusesDrop incarnation seen (faults.File fault) = ⊥
RefusesDrop incarnation seen faults.NameDiffers = ⊥
RefusesDrop incarnation seen (faults.History fault) = (fault ≡ NotServed) ⊎ (fault ≡ CountAtEnd)
RefusesDrop incarnation seen (faults.Wire fault) = ⊥
RefusesDrop incarnation seen faults.NoFile = ⊥
RefusesDrop incarnation seen (faults.Stale found) = IsStale incarnation found seen
RefusesDrop incarnation seen faults.NotPartitionZero = ⊥
RefusesDrop incarnation seen faults.Memory = ⊤

-- why a tombstone was not placed in a node of that incarnation, of which that mark was seen: N7 before all else
abbrev pub RefusesTombstone : ℕ → Identifier → Point → NodeFault → Type 0
RefusesTombstone incarnation id seen faults.Device = ⊥
RefusesTombstone incarnation id seen (faults.File fault) = ⊥
RefusesTombstone incarnation id seen faults.NameDiffers = ⊥
RefusesTombstone incarnation id seen (faults.History fault) = (id.partition ≡ 0) × IsLoadRefusal fault
RefusesTombstone incarnation id seen (faults.Wire fault) = ⊥
RefusesTombstone incarnation id seen faults.NoFile = ⊥
RefusesTombstone incarnation id seen (faults.Stale found) = (id.partition ≡ 0) × IsStale incarnation found seen
RefusesTombstone incarnation id seen faults.NotPartitionZero = id.partition ≢ 0
RefusesTombstone incarnation id seen faults.Memory = id.partition ≡ 0

-- a state of that incarnation and what an answer makes of it, both of that mark, which is not below what was seen
pub record AreAtMark (incarnation : ℕ) (seen mark : Point) (state next : State) : Type 0 where
  pub valid : IsState state
  pub kept : IsKept state.history
  pub incarnation_is : state.history.incarnation ≡ incarnation
  pub mark_is : mark_of state ≡ mark
  pub risen : mark_cmp seen mark ≢ Greater
  pub freezes : Freezes state next
  pub next_valid : IsState next
  pub next_kept : IsKept next.history
  pub next_mark : mark_of next ≡ mark

-- a state of that incarnation, whose mark is the second and not below the first, answers so
abbrev pub AnswersFrom : ℕ → Point → Point → RequestValue → ℕ → List ℕ → Type 0
AnswersFrom incarnation before after request status body =
    (state next : State) × AreAtMark incarnation before after state next × RespondsInTurn state next request status body

-- a state of that incarnation that is not older than what was seen answers so
abbrev pub AnswersSince : ℕ → Point → RequestValue → ℕ → List ℕ → Type 0
AnswersSince incarnation before request status body = (after : Point) × AnswersFrom incarnation before after request status body

-- an answer was written, and what is seen then is the mark of the state that gave it, or what was seen where no state did
abbrev pub IsServedAsSeen : ℕ → Point → Point → Option (List ℕ) → Option (List ℕ) → Option (List ℕ) → Option (List ℕ) → ℕ → Type 0
IsServedAsSeen incarnation seen now before after old new sent =
    IsServed (AnswersFrom incarnation seen now) (now ≡ seen) before after old new sent

-- N8: a request was read, and the state is older than what was seen; nothing was written
pub record IsPassedBy (incarnation : ℕ) (seen : Point) (before after old new : Option (List ℕ)) (fault : NodeFault) : Type 0 where
  pub found : Point
  pub beyond : IsStale incarnation found seen
  pub reported : fault ≡ faults.Stale found
  pub read : IfSome before (λ input. (request : RequestValue) × (rest : List ℕ) × (after ≡ Some rest) × IsRequest input request rest)
  pub unwritten : new ≡ old

-- N5: no request was read, or no whole answer was written of a state that is not older than what was seen, or of none
pub record IsUnserved (incarnation : ℕ) (seen : Point) (before after old new : Option (List ℕ)) (fault : NodeFault) : Type 0 where
  pub cause : WireFault
  pub reported : fault ≡ faults.Wire cause
  pub now : Point
  pub fails : FailsToServe (AnswersFrom incarnation seen now) (now ≡ seen) before after old new cause
