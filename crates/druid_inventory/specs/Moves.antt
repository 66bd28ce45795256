-- An entry that moves by changes of its set: only proofs use this.
use Rattle.std.specs.Prelude.{◌≡◌, ℕ, List, Some, slice_get, slice_set}
use Rattle.druid_segment_descriptor.specs.Described.{Described}
use Rattle.druid_segment_descriptor.specs.Mark.{Point}
use Rattle.druid_segment_descriptor.specs.Replay.{replay_from}
use Rattle.druid_segment_descriptor.specs.declared.change.Change.{Change}
use Rattle.druid_inventory.specs.Entry.{Entry}
use Rattle.druid_inventory.specs.Step.{moved_to}

-- the changes lead from the entry to the other, at this mark
abbrev pub Moves : Entry → Entry → Point → List Change → Type 0
Moves old new to changes = (t : List Described) × (replay_from old.set changes ≡ Some t) × (new ≡ moved_to old to t)

-- of the node the entry moves, and the others stay
abbrev pub MovesAt : List Entry → List Entry → ℕ → Point → List Change → Type 0
MovesAt old new node to changes =
    (e : Entry) × (f : Entry) × (slice_get old node ≡ Some e) × Moves e f to changes × (new ≡ slice_set old node f)
