-- Exchanges of runs for those of an edit: only proofs use this.
use Rattle.std.specs.Prelude.{◌≡◌, ◌≤◌, ◌+◌, ◌-◌, ℕ, List, [], ◌∷◌, Option, None, Some, length, map, reverse, vec_capacity}
use Rattle.druid_time.specs.Extent.{Extent}
use Rattle.druid_segment_id.specs.Group.{Group}
use Rattle.druid_timeline_chunks.specs.Chunks.{Chunk, AreChunks, members_at}
use Rattle.druid_timeline.specs.declared.edit.Edit.{Edit}
use Rattle.druid_timeline.specs.Chunks.{held_in}
use Rattle.druid_timeline.specs.Edited.{spliced}
use Rattle.druid_timeline.specs.Pieces.{ArePieces, shown_at}

-- the runs after an exchange for those of an edit
abbrev pub exchanged : List (Extent × Group) → Edit → List (Extent × Group)
exchanged runs edit = spliced runs edit.from edit.to edit.runs.items

-- the runs after the exchange for an edit, if there is one
abbrev pub settled : List (Extent × Group) → Option Edit → List (Extent × Group)
settled runs None = runs
settled runs (Some edit) = exchanged runs edit

-- runs in a Vec of this capacity can be exchanged for those of an edit without allocating
pub record CanExchange (runs : List (Extent × Group)) (capacity : ℕ) (edit : Edit) : Type 0 where
  pub inside : (edit.from ≤ edit.to) × (edit.to ≤ length runs)
  pub room : length runs + length edit.runs.items ≤ capacity + (edit.to - edit.from)
  pub place : edit.to - edit.from ≤ vec_capacity edit.runs

-- an edit exchanges the runs new for the runs old, within a capacity
pub record ExchangesBack (old new : List (Extent × Group)) (capacity : ℕ) (edit : Edit) : Type 0 where
  pub can : CanExchange new capacity edit
  pub runs : exchanged new edit ≡ old

-- the runs after the exchanges of a log
abbrev pub undone : List Edit → List (Extent × Group) → List (Extent × Group)
undone [] runs = runs
undone (edit ∷ more) runs = undone more (exchanged runs edit)

-- each exchange of a log can be made where those before it were made
abbrev pub CanUndo : List Edit → List (Extent × Group) → ℕ → Type 0
CanUndo [] runs capacity = Unit {0}
CanUndo (edit ∷ more) runs capacity = CanExchange runs capacity edit × CanUndo more (exchanged runs edit) capacity

-- each chunk has the same members
abbrev pub HaveMembersOf : List Chunk → List Chunk → Type 0
HaveMembersOf chunks before = (g : Group) → members_at chunks g ≡ members_at before g

-- the log, the latest first, takes the runs back to the pieces of the chunks before
pub record TakesBack (before : List Chunk) (runs : List (Extent × Group)) (capacity : ℕ) (log : List Edit) : Type 0 where
  pub can : CanUndo (reverse log) runs capacity
  pub pieces : (chunks : List Chunk) → AreChunks chunks → HaveMembersOf chunks before → ArePieces (held_in chunks) (map shown_at (undone (reverse log) runs))
