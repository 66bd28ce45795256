use Rattle.std.proofs.Common.{◌≡◌, take, map}
use Rattle.druid_segment_rows.specs.Segment.{row_at}
use Rattle.druid_partial_scan.proofs.KeyLemmas.{borrowed}
use Rattle.druid_partial_scan.specs.Places.{at_place}
use Rattle.druid_partial_scan.proofs.field_sources.values_at.Given as goal

abbrev pub invariant-loop-place : goal.invariant-loop-place
invariant-loop-place l = borrowed l.values.items ≡ map (at_place (row_at l.segment l.row).dimensions) (take l.place-index l.places)
