-- What a node answers to a query.
use Rattle.std.specs.Prelude.{◌≡◌, List, filter, Bool, not, is_some}
use Rattle.druid_segment_rows.specs.Segment.{Segment}
use Rattle.druid_query.specs.Asked.{Asked}
use Rattle.druid_query.specs.SubQuery.{SubQuery}
use Rattle.druid_partial.specs.Answer.{Answer}
use Rattle.druid_partial.specs.Groups.{IsResult}
use Rattle.druid_partial.specs.Partials.{kinds_of, IsPartialFor}
use Rattle.druid_partial_scan.specs.Once.{segment_named, counted_groups}

-- the segment of the piece is not held
abbrev pub is_missing : List Segment → Asked → Bool
is_missing held a = not (is_some (segment_named a.0 held))

-- the pieces whose segment is not held, in the order in which they were asked for
abbrev pub missing : List Segment → List Asked → List Asked
missing held asked = filter (is_missing held) asked

-- the answer to a subquery of a node that holds these segments
pub record IsAnswerOf (held : List Segment) (sub : SubQuery) (a : Answer) : Type 0 where
  pub missed : a.missing ≡ missing held sub.asked
  pub result : IsResult (kinds_of sub.query) (counted_groups sub.query held sub.asked) a.partial.groups
  pub of_query : IsPartialFor sub.query a.partial
