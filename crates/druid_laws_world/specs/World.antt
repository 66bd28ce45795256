-- The world of events: which changes there were at each node, what a mark stands for, and what is said truly of it.
-- A reader has to believe this file.
use Rattle.std.specs.Prelude.{◌≡◌, ℕ, ◌<◌, ◌≤◌, ◌⊎◌, ◌==◌, ⊤, List, [], ◌∷◌, ◌++◌, length, map, take, Option, Some, None, option_and_then, nat_le, slice_get, slice_range, if◌then◌else◌}
use Rattle.std.specs.List.{AllByRecursion, AllZip}
use Rattle.druid_segment_descriptor.specs.Described.{Described}
use Rattle.druid_segment_descriptor.specs.Mark.{Point, never, same_mark}
use Rattle.druid_segment_descriptor.specs.Reply.{max_page}
use Rattle.druid_segment_descriptor.specs.Replay.{replay}
use Rattle.druid_segment_descriptor.specs.declared.change.Change.{Change}
use Rattle.druid_segment_descriptor.specs.declared.reply.Body.{Body}
use Rattle.druid_segment_descriptor.specs.declared.reply.Body.TheVariants.{Delta, Snapshot, Page, Reset}
use Rattle.druid_sync_pages.specs.Pages.{page_at, pages_in}
use Rattle.druid_inventory.specs.Entry.{Entry}

-- ---- the nodes

-- one incarnation of a node, and its changes
pub record Era : Type 0 where
  pub incarnation : ℕ
  pub changes : List Change

-- a node: its incarnations that ended, in their order, and the one that goes on; how many changes it keeps to answer with; and
-- after how many of the last incarnation's it froze a set for its pages, if one is frozen
pub record Life : Type 0 where
  pub ended : List Era
  pub last : Era
  pub kept : ℕ
  pub frozen : Option ℕ

-- all its incarnations, in their order
abbrev pub eras_of : Life → List Era
eras_of life = life.ended ++ life.last ∷ []

-- the changes of an incarnation can be made one after another, and incarnations count from 1
pub record IsEra (era : Era) : Type 0 where
  pub incarnation : 1 ≤ era.incarnation
  pub set : List Described
  pub replayed : replay era.changes ≡ Some set

-- the incarnations rise
abbrev pub AreRising : List Era → Type 0
AreRising [] = ⊤
AreRising (era ∷ []) = ⊤
AreRising (era ∷ next ∷ eras) = (era.incarnation < next.incarnation) × AreRising (next ∷ eras)

-- what is frozen was there
abbrev pub IsThere : Option ℕ → ℕ → Type 0
IsThere None count = ⊤
IsThere (Some frozen) count = frozen ≤ count

-- a node has one history for each incarnation, and its incarnations rise
pub record IsLife (life : Life) : Type 0 where
  pub eras : AllByRecursion IsEra (eras_of life)
  pub rising : AreRising (eras_of life)
  pub frozen : IsThere life.frozen (length life.last.changes)

-- a world is a list of nodes
abbrev pub IsWorld : List Life → Type 0
IsWorld world = AllByRecursion IsLife world

-- ---- what a mark stands for

-- the changes of an incarnation, if there was one of that number
abbrev pub changes_of : List Era → ℕ → Option (List Change)
changes_of [] i = None
changes_of (era ∷ eras) i = if era.incarnation == i then Some era.changes else changes_of eras i

-- the set after the first changes, if there are so many
unfoldable pub set_after : List Change → ℕ → Option (List Described)
set_after changes count = if nat_le count (length changes) then replay (take count changes) else None

-- what a node serves at a mark: nothing where it was never synced, and else the set after that many changes of the
-- incarnation. It is None where the node did not come to that mark.
unfoldable pub set_at : List Era → Point → Option (List Described)
set_at eras mark =
    if same_mark mark never then Some [] else option_and_then (λ changes. set_after changes mark.count) (changes_of eras mark.incarnation)

-- the mark is one of the node: (0, 0), or so many changes of an incarnation
abbrev pub CameTo : Life → Point → Type 0
CameTo life mark =
    (mark ≡ never)
    ⊎ ((changes : List Change) × (changes_of (eras_of life) mark.incarnation ≡ Some changes) × (mark.count ≤ length changes))

-- what is known of a node is what it serves at that mark
abbrev pub IsTrueEntry : Life → Entry → Type 0
IsTrueEntry life e = set_at (eras_of life) e.mark ≡ Some e.set

-- what is known of each node is what it serves at that mark: such an inventory is determined by its names and its marks
abbrev pub IsInventoryOf : List Life → List Entry → Type 0
IsInventoryOf world inventory = AllZip IsTrueEntry world inventory

-- the marks of an inventory, node by node
abbrev pub marks_of : List Entry → List Point
marks_of inventory = map (λ e. e.mark) inventory

-- ---- what is said truly of a node

-- these are the changes of one incarnation from a count to a later one
pub record IsStretch (eras : List Era) (from to : Point) (changes : List Change) : Type 0 where
  pub all : List Change
  pub of_one : changes_of eras from.incarnation ≡ Some all
  pub same : to.incarnation ≡ from.incarnation
  pub onward : from.count ≤ to.count
  pub there : to.count ≤ length all
  pub are : changes ≡ slice_range all from.count to.count

-- a page of the set at its mark, which has more than one
pub record IsTruePage (eras : List Era) (at : Point) (page of : ℕ) (segments : List Described) : Type 0 where
  pub set : List Described
  pub there : set_at eras at ≡ Some set
  pub several : max_page < length set
  pub count : of ≡ pages_in (length set)
  pub within : page < of
  pub segments_are : segments ≡ page_at set page

-- a reply of the node that is true: the changes between its marks, the set at its mark, a page of it, or that the node is to be asked
-- for the whole
abbrev pub IsHonest : List Era → Body → Type 0
IsHonest eras (Delta from to changes) = IsStretch eras from to changes
IsHonest eras (Snapshot at set) = set_at eras at ≡ Some set
IsHonest eras (Page at page of segments) = IsTruePage eras at page of segments
IsHonest eras (Reset cause at) = ⊤

-- a reply of that node of the world is true
abbrev pub IsHonestAt : List Life → ℕ → Body → Type 0
IsHonestAt world node reply = (life : Life) × (slice_get world node ≡ Some life) × IsHonest (eras_of life) reply

-- ---- how the world grows

-- more changes of an incarnation
abbrev pub with_more : Era → List Change → Era
with_more era more = record { incarnation = era.incarnation; changes = era.changes ++ more }

-- the last incarnation goes on, or it ended and others came after it; nothing that was is changed
abbrev pub Grows : Life → Life → Type 0
Grows old new = (more : List Change) × (beyond : List Era) × (eras_of new ≡ old.ended ++ with_more old.last more ∷ beyond)
