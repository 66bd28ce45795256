-- What segments tell a query, each with the intervals that are asked of it.
use Rattle.std.specs.Prelude.{List, Vec}
use Rattle.std.specs.Borrow.{Bor}
use Rattle.std.specs.Global.{Global}
use Rattle.std.specs.List.{flat_map}
use Rattle.druid_time.specs.Extent.{Extent}
use Rattle.druid_segment_rows.specs.Segment.{Segment}
use Rattle.druid_query.specs.Query.{Query}
use Rattle.druid_partial.specs.Groups.{Group}
use Rattle.druid_partial_scan.specs.Rows.{counted_by}

-- a segment, and the intervals
abbrev pub Slice : Type 0
Slice = Bor Segment × Vec Extent Global

-- what it tells
abbrev pub slice_groups : Query → Slice → List Group
slice_groups query s = flat_map (counted_by query s.0.now) s.1.items
