-- How a node keeps the set of segments that it serves.
use Rattle.std.specs.Prelude.{◌≡◌, List, All}
use Rattle.std.specs.Map.{values_of}
use Rattle.druid_segment_id.specs.Identifier.{Identifier}
use Rattle.druid_segment_descriptor.specs.Described.{Described, IsDescribed}
use Rattle.druid_segment_descriptor.specs.Replay.{IsSegmentSet}

-- a segment at its identifier
abbrev pub IsEntry : Identifier × Described → Type 0
IsEntry e = (e.0 ≡ e.1.id) × IsDescribed e.1

-- the entries of a map whose values are a set of segments, each at its identifier
pub record IsKeyed (entries : List (Identifier × Described)) : Type 0 where
  pub each : All IsEntry entries
  pub set : IsSegmentSet (values_of entries)
