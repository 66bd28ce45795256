-- How a node keeps the segments that it holds. Only proofs and private functions use this.
use Rattle.std.specs.Prelude.{List, [], ◌∷◌, All, if◌then◌else◌}
use Rattle.std.specs.Ordering.{match_ordering}
use Rattle.druid_segment_id.specs.Identifier.{Identifier, same_identifier, identifier_cmp}
use Rattle.druid_segment_descriptor.specs.Described.{IsDescribed}
use Rattle.druid_segment_descriptor.specs.Replay.{IsSegmentSet}
use Rattle.druid_segment_rows.specs.Segment.{Segment, IsSegment, HaveWords}
use Rattle.druid_sync_history.specs.Kept.{Kept}
use Rattle.druid_node.specs.State.{State, descriptors_of}

-- what a segment that is held keeps
pub record IsWhole (s : Segment) : Type 0 where
  pub described : IsDescribed s.descriptor
  pub valid : IsSegment s
  pub words : HaveWords s

-- segments of a set that a node may serve, in its order
pub record IsHeld (held : List Segment) : Type 0 where
  pub set : IsSegmentSet (descriptors_of held)
  pub each : All IsWhole held

-- the segment put at its place
abbrev pub with_held : Segment → List Segment → List Segment
with_held s [] = s ∷ []
with_held s (x ∷ xs) =
    match_ordering (identifier_cmp s.descriptor.id x.descriptor.id) (s ∷ x ∷ xs) (s ∷ xs) (x ∷ with_held s xs)

-- the segment of that identifier taken out
abbrev pub without_held : Identifier → List Segment → List Segment
without_held id [] = []
without_held id (x ∷ xs) = if same_identifier id x.descriptor.id then xs else x ∷ without_held id xs

-- the state of these parts
abbrev pub state_of : Kept → List Segment → State
state_of history held = record { history = history; held = held }
