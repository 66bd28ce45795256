-- What published replies make of the inventory that a publisher began with.
use Rattle.std.specs.Prelude.{◌≡◌, ◌≤◌, ℕ, Bool, ◌==◌, ◌&&◌, List, [], ◌∷◌, take, Option, Some, None, slice_get, slice_set, nat_le, nat_lt, if◌then◌else◌}
use Rattle.std.specs.Ordering.{is_lt}
use Rattle.druid_segment_descriptor.specs.Described.{Described}
use Rattle.druid_segment_descriptor.specs.Mark.{Point, mark_cmp}
use Rattle.druid_segment_descriptor.specs.Replay.{replay_from}
use Rattle.druid_segment_descriptor.specs.declared.reply.Body.{Body}
use Rattle.druid_segment_descriptor.specs.declared.reply.Body.TheVariants.{Delta, Snapshot, Page, Reset}
use Rattle.druid_inventory.specs.Entry.{Entry}
use Rattle.druid_inventory.specs.Step.{moved_to, tail_of}

-- replies of nodes, in the order in which they were published
abbrev pub Published : Type 0
Published = List (ℕ × Body)

-- a delta of the entry's incarnation goes beyond its mark, and begins no later than there
abbrev pub goes_on : Entry → Point → Point → Bool
goes_on e from to =
    (to.incarnation == e.mark.incarnation) && nat_lt e.mark.count to.count && nat_le from.count e.mark.count

-- the entry at a mark with the set that changes lead to, if they can be made
abbrev pub moved_if : Entry → Point → Option (List Described) → Entry
moved_if e at None = e
moved_if e at (Some set) = moved_to e at set

-- the entry after a reply: where the reply moves it, and else where it was
abbrev pub stepped : Entry → Body → Entry
stepped e (Delta from to changes) =
    if goes_on e from to then moved_if e to (replay_from e.set (tail_of e from changes)) else e
stepped e (Snapshot at set) = if is_lt (mark_cmp e.mark at) then moved_to e at set else e
stepped e (Page at page of segments) = e
stepped e (Reset cause at) = e

abbrev pub stepped_if : List Entry → ℕ × Body → Option Entry → List Entry
stepped_if inventory pair None = inventory
stepped_if inventory pair (Some e) = slice_set inventory pair.0 (stepped e pair.1)

-- the inventory after the reply of a node
abbrev pub step_by : List Entry → ℕ × Body → List Entry
step_by inventory pair = stepped_if inventory pair (slice_get inventory pair.0)

-- and after all replies, one by one
abbrev pub fold_of : List Entry → Published → List Entry
fold_of inventory [] = inventory
fold_of inventory (pair ∷ published) = fold_of (step_by inventory pair) published

-- what was published after the first so many changed nothing
pub record IsStill (opening : List Entry) (published : Published) (count : ℕ) : Type 0 where
  pub same : (k : ℕ) → count ≤ k → fold_of opening (take k published) ≡ fold_of opening published

-- what a contract sees of a publisher: what it published, what it has, and the beginning of what it published that views are
-- shown
pub record PublisherValue : Type 0 where
  pub published : Published
  pub inventory : List Entry
  pub shown : Published
