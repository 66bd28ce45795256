-- Pieces by the places that their segments have among those that are held. Only private functions use this.
use Rattle.std.specs.Prelude.{ℕ, ◌<◌, List, length, slice_get}
use Rattle.druid_time.specs.Extent.{Extent}
use Rattle.druid_segment_rows.specs.Segment.{Segment}
use Rattle.druid_query.specs.Query.{Query}
use Rattle.druid_partial.specs.Groups.{Group}
use Rattle.druid_partial_scan.specs.Once.{counted_in}

-- a piece of the segment at a place
abbrev pub Placed : Type 0
Placed = ℕ × Extent

-- what it tells
abbrev pub counted_at : Query → List Segment → Placed → List Group
counted_at query held p = counted_in query p.1 (slice_get held p.0)

-- there is a segment at its place
abbrev pub IsWithin : List Segment → Placed → Type 0
IsWithin held p = p.0 < length held
