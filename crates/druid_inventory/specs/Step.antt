-- What a reply makes of an entry.
use Rattle.std.specs.Prelude.{◌≡◌, ◌⊎◌, ℕ, ◌+◌, ◌-◌, ◌<◌, ◌≤◌, true, false, List, Some, None, take, drop, slice_get}
use Rattle.std.specs.declared.cmp.Ordering.TheVariants.{Less, Equal, Greater}
use Rattle.druid_segment_descriptor.specs.Described.{Described}
use Rattle.druid_segment_descriptor.specs.Mark.{Point, mark_cmp}
use Rattle.druid_segment_descriptor.specs.Replay.{is_strict, has_room, replay_from}
use Rattle.druid_segment_descriptor.specs.declared.change.Change.{Change}
use Rattle.druid_segment_descriptor.specs.declared.reply.Body.{Body}
use Rattle.druid_segment_descriptor.specs.declared.reply.Body.TheVariants.{Delta, Snapshot, Page, Reset}
use Rattle.druid_inventory.specs.Entry.{Entry}
use Rattle.druid_inventory.specs.declared.fault.Outcome.{Outcome}
use Rattle.druid_inventory.specs.declared.fault.Outcome.TheVariants.{Moved, AlreadyHave, AskWhole, AskPages}
use Rattle.druid_inventory.specs.declared.fault.ApplyFault.{ApplyFault}
use Rattle.druid_inventory.specs.declared.fault.ApplyFault.TheVariants as faults

-- the entry with another mark and another set
abbrev pub moved_to : Entry → Point → List Described → Entry
moved_to e at set = record { name = e.name; mark = at; set = set }

-- ---- snapshots

-- a snapshot of a later mark moves the entry to its mark and its set
abbrev pub SnapshotMoves : Entry → Point → List Described → Entry → Type 0
SnapshotMoves e at set new = (mark_cmp e.mark at ≡ Less) × (new ≡ moved_to e at set)

-- one of an earlier mark, or of this mark with this set, leaves it
abbrev pub SnapshotIsKnown : Entry → Point → List Described → Entry → Type 0
SnapshotIsKnown e at set new =
    ((mark_cmp e.mark at ≡ Greater) ⊎ ((mark_cmp e.mark at ≡ Equal) × (set ≡ e.set))) × (new ≡ e)

-- one of this mark with another set conflicts with it
abbrev pub SnapshotConflicts : Entry → Point → List Described → Type 0
SnapshotConflicts e at set = (mark_cmp e.mark at ≡ Equal) × (set ≡ e.set → ⊥)

-- ---- deltas

-- a delta of the entry's incarnation goes beyond its mark
pub record IsAhead (e : Entry) (to : Point) : Type 0 where
  pub incarnation : to.incarnation ≡ e.mark.incarnation
  pub later : e.mark.count < to.count

-- and begins no later than there
pub record GoesOn (e : Entry) (from to : Point) : Type 0 where
  pub ahead : IsAhead e to
  pub no_gap : from.count ≤ e.mark.count

-- how many of its changes the entry has already
abbrev pub known_of : Entry → Point → ℕ
known_of e from = e.mark.count - from.count

-- the changes that the entry has not
abbrev pub tail_of : Entry → Point → List Change → List Change
tail_of e from changes = drop (known_of e from) changes

-- of the set after the changes before it, the change at k is none that is strict
abbrev pub NotStrictAt : List Described → List Change → ℕ → Type 0
NotStrictAt s cs k =
    (t : List Described) × (c : Change) × (replay_from s (take k cs) ≡ Some t) × (slice_get cs k ≡ Some c) × (is_strict t c ≡ false)

-- of the set after the changes before it, the change at k is strict, and there is no room for it
abbrev pub NoRoomAt : List Described → List Change → ℕ → Type 0
NoRoomAt s cs k =
    (t : List Described) × (c : Change) × (replay_from s (take k cs) ≡ Some t) × (slice_get cs k ≡ Some c)
    × (is_strict t c ≡ true) × (has_room t c ≡ false)

-- a delta that goes on moves the entry by the changes that it has not
abbrev pub DeltaMoves : Entry → Point → Point → List Change → Entry → Type 0
DeltaMoves e from to changes new =
    GoesOn e from to × (t : List Described) × (replay_from e.set (tail_of e from changes) ≡ Some t) × (new ≡ moved_to e to t)

-- one that does not go beyond its mark leaves it
abbrev pub DeltaIsKnown : Entry → Point → Entry → Type 0
DeltaIsKnown e to new = (to.incarnation ≡ e.mark.incarnation) × (to.count ≤ e.mark.count) × (new ≡ e)

-- ---- replies

-- from an entry, a reply has this outcome and leaves the entry new
abbrev pub Steps : Entry → Body → Outcome → Entry → Type 0
Steps e (Delta from to changes) Moved new = DeltaMoves e from to changes new
Steps e (Delta from to changes) AlreadyHave new = DeltaIsKnown e to new
Steps e (Delta from to changes) AskWhole new = ⊥
Steps e (Delta from to changes) AskPages new = ⊥
Steps e (Snapshot at set) Moved new = SnapshotMoves e at set new
Steps e (Snapshot at set) AlreadyHave new = SnapshotIsKnown e at set new
Steps e (Snapshot at set) AskWhole new = ⊥
Steps e (Snapshot at set) AskPages new = ⊥
Steps e (Page at page of segments) Moved new = ⊥
Steps e (Page at page of segments) AlreadyHave new = ⊥
Steps e (Page at page of segments) AskWhole new = ⊥
Steps e (Page at page of segments) AskPages new = new ≡ e
Steps e (Reset cause at) Moved new = ⊥
Steps e (Reset cause at) AlreadyHave new = ⊥
Steps e (Reset cause at) AskWhole new = new ≡ e
Steps e (Reset cause at) AskPages new = ⊥

-- a delta is refused
abbrev pub DeltaRefused : Entry → Point → Point → List Change → ApplyFault → Type 0
DeltaRefused e from to changes faults.UnknownNode = ⊥
DeltaRefused e from to changes faults.OtherIncarnation = to.incarnation ≡ e.mark.incarnation → ⊥
DeltaRefused e from to changes faults.Gap = IsAhead e to × (e.mark.count < from.count)
-- by its place in the whole delta
DeltaRefused e from to changes (faults.NotStrict index) =
    GoesOn e from to × (k : ℕ) × NotStrictAt e.set (tail_of e from changes) k × (index ≡ known_of e from + k)
DeltaRefused e from to changes faults.TooMany = GoesOn e from to × (k : ℕ) × NoRoomAt e.set (tail_of e from changes) k
DeltaRefused e from to changes faults.Conflict = ⊥
DeltaRefused e from to changes faults.PageConflict = ⊥
DeltaRefused e from to changes faults.Memory = ⊥

-- a snapshot is refused
abbrev pub SnapshotRefused : Entry → Point → List Described → ApplyFault → Type 0
SnapshotRefused e at set faults.Conflict = SnapshotConflicts e at set
SnapshotRefused e at set _ = ⊥

-- for an entry, a reply is refused, and leaves it
abbrev pub Refuses : Entry → Body → ApplyFault → Type 0
Refuses e (Delta from to changes) fault = DeltaRefused e from to changes fault
Refuses e (Snapshot at set) fault = SnapshotRefused e at set fault
Refuses e (Page at page of segments) fault = ⊥
Refuses e (Reset cause at) fault = ⊥

-- ---- the entry of a node

-- the reply of a node has this outcome, and leaves its entry new
abbrev pub StepsAt : List Entry → ℕ → Body → Outcome → Entry → Type 0
StepsAt inventory node body outcome new = (e : Entry) × (slice_get inventory node ≡ Some e) × Steps e body outcome new

-- the reply of a node is refused
abbrev pub RefusedAt : List Entry → ℕ → Body → ApplyFault → Type 0
RefusedAt inventory node body fault = (e : Entry) × (slice_get inventory node ≡ Some e) × Refuses e body fault

-- the fault that tells why a reply of a node is not applied
abbrev pub Reports : List Entry → ℕ → Body → ApplyFault → Type 0
Reports inventory node body faults.UnknownNode = slice_get inventory node ≡ None
-- out of memory only where nothing else is refused
Reports inventory node body faults.Memory = (outcome : Outcome) × (new : Entry) × StepsAt inventory node body outcome new
Reports inventory node body fault = RefusedAt inventory node body fault
