-- What a gathered answer is good for, where the nodes' answers were honest: the rows that are visible, but those of missing pieces.
use Rattle.std.specs.Prelude.{◌≡◌, ◌&&◌, ℕ, Bool, true, false, not, List, map, filter, Contains, ◌↔◌}
use Rattle.std.specs.List.{flat_map, list_any}
use Rattle.druid_time.specs.Extent.{AnyHas}
use Rattle.druid_segment_id.specs.Group.{group_of}
use Rattle.druid_segment_descriptor.specs.Described.{Described}
use Rattle.druid_timeline.specs.Holding.{Held}
use Rattle.druid_timeline.specs.Visible.{IsVisible}
use Rattle.druid_inventory.specs.Entry.{Entry}
use Rattle.druid_inventory.specs.Sources.{Serves}
use Rattle.druid_segment_rows.specs.Rows.{Row}
use Rattle.druid_segment_rows.specs.Segment.{Segment}
use Rattle.druid_filter.specs.Filters.{value_in}
use Rattle.druid_query.specs.Query.{Query}
use Rattle.druid_query.specs.Asked.{Asked}
use Rattle.druid_query.specs.AskedOrder.{same_asked}
use Rattle.druid_partial.specs.Groups.{Group, IsResult}
use Rattle.druid_partial_scan.specs.Once.{HaveOwnSegments, counted_groups, is_counted}
use Rattle.druid_partial.specs.Partials.{kinds_of}
use Rattle.druid_partial_scan.specs.Rows.{row_group, passes_if}
use Rattle.druid_broker_scatter.specs.Gathered.{Exchange, Answers}

-- the pieces that an answer gives: those that were asked for and that it does not list as missing
abbrev pub without : List Asked → List Asked → List Asked
without missing asked = filter (λ a. not (list_any (same_asked a) missing)) asked

-- an answer is honest over these segments where it tells what their rows tell that lie in the pieces that it gives
abbrev pub IsHonest : Query → List Segment → Exchange → Type 0
IsHonest query segments e =
    (missing : List Asked) (groups : List Group) → Answers query e missing groups
    → IsResult (kinds_of query) (counted_groups query segments (without missing e.asked)) groups

-- these are the segments of the source whose rows nodes serve, one of each identifier: a tombstone has none
pub record AreServed (inventory : List Entry) (source : List ℕ) (segments : List Segment) : Type 0 where
  pub own : HaveOwnSegments segments
  pub each : (s : Segment) → Contains segments s
      → (node : ℕ) × (d : Described) × Serves inventory node d × (d.id ≡ s.descriptor.id) × (s.descriptor.id.source ≡ source)
      × (d.tombstone ≡ false)
  pub all : (node : ℕ) (d : Described) → Serves inventory node d → d.id.source ≡ source → d.tombstone ≡ false
      → (s : Segment) × Contains segments s × (s.descriptor.id ≡ d.id)

-- the test tells which rows are visible and asked for: at the row's time its segment's chunk is what is visible, and the query
-- asks for that time
abbrev pub Sees : Query → List Held → List Segment → (Segment → Row → Bool) → Type 0
Sees query held segments sees =
    (s : Segment) (row : Row) → Contains segments s
    → (sees s row ≡ true) ↔ (IsVisible held row.time (group_of s.descriptor.id) × AnyHas query.intervals row.time)

-- of these the rows that pass the query's filter, and lie in none of the missing pieces
abbrev pub counts : Query → (Segment → Row → Bool) → List Asked → Segment → Row → Bool
counts query sees missing s row =
    (sees s row && passes_if (value_in s.fields.dimensions row.dimensions) query.filter) && not (is_counted query missing s row)

-- what they tell
abbrev pub counted_visible : Query → (Segment → Row → Bool) → List Asked → List Segment → List Group
counted_visible query sees missing segments = flat_map (λ s. map (row_group query s.fields) (filter (counts query sees missing s) s.rows)) segments
