-- What a query tells of pieces of segments, and of their rows, each row once.
use Rattle.std.specs.Prelude.{◌≡◌, ◌&&◌, ⊤, List, [], ◌∷◌, filter, map, Bool, Option, Some, None, if◌then◌else◌}
use Rattle.std.specs.List.{flat_map, list_any}
use Rattle.druid_time.specs.Extent.{Extent}
use Rattle.druid_segment_id.specs.Identifier.{Identifier, same_identifier}
use Rattle.druid_segment_rows.specs.Rows.{Row}
use Rattle.druid_segment_rows.specs.Segment.{Segment}
use Rattle.druid_query.specs.Query.{Query}
use Rattle.druid_query.specs.Asked.{Asked}
use Rattle.druid_partial.specs.Groups.{Group}
use Rattle.druid_partial_scan.specs.Rows.{row_group, is_asked, counted_by}

-- the segment of that identifier
abbrev pub segment_named : Identifier → List Segment → Option Segment
segment_named id [] = None
segment_named id (s ∷ more) = if same_identifier id s.descriptor.id then Some s else segment_named id more

-- the identifier of each is that of none after it
abbrev pub HaveOwnSegments : List Segment → Type 0
HaveOwnSegments [] = ⊤
HaveOwnSegments (s ∷ more) = (segment_named s.descriptor.id more ≡ None) × HaveOwnSegments more

-- what a piece tells of the segment that was found for it: nothing where there is none
abbrev pub counted_in : Query → Extent → Option Segment → List Group
counted_in query piece None = []
counted_in query piece (Some s) = counted_by query s piece

-- what a piece that was asked for tells
abbrev pub counted_of : Query → List Segment → Asked → List Group
counted_of query segments a = counted_in query a.1 (segment_named a.0 segments)

-- what all pieces tell
abbrev pub counted_groups : Query → List Segment → List Asked → List Group
counted_groups query segments asked = flat_map (counted_of query segments) asked

-- one of these pieces asks for the row of the segment
abbrev pub is_counted : Query → List Asked → Segment → Row → Bool
is_counted query asked s row = list_any (λ a. same_identifier a.0 s.descriptor.id && is_asked query a.1 s.fields row) asked

-- what a segment's rows tell that some piece asks for, each row once
abbrev pub counted_by_some : Query → List Asked → Segment → List Group
counted_by_some query asked s = map (row_group query s.fields) (filter (is_counted query asked s) s.rows)

-- the same of all segments
abbrev pub counted_once : Query → List Asked → List Segment → List Group
counted_once query asked segments = flat_map (counted_by_some query asked) segments
