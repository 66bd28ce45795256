use Rattle.std.proofs.Common.{◌↔◌, IsTrue, map, subst}
use Rattle.std.specs.List.Sorted.{IsNonDecreasing}
use Rattle.druid_segment_rows.specs.Rows.{Row}
use Rattle.druid_segment_rows.specs.Segment.{Segment}
use Rattle.druid_segment_rows.proofs.segment.Segment.is_rising.Goals as goal

pub returns : goal.returns
returns c =
    subst (λ (s : Segment). IsTrue c.is_rising.result ↔ IsNonDecreasing (map (λ (row : Row). row.time) s.rows)) c.self.view_is c.is_rising.ensures
