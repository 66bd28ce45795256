use Rattle.std.proofs.Common.{◌≡◌, ◌+◌, drop, option_map}
use Rattle.druid_segment_rows.specs.Rows.{texts_of}
use Rattle.druid_partial_scan.specs.Places.{place_in}
use Rattle.druid_partial_scan.proofs.field_sources.place_of.Given as goal

abbrev pub invariant-loop-place : goal.invariant-loop-place
invariant-loop-place l =
    option_map (λ k. k + l.place) (place_in (texts_of (drop l.place l.names)) l.name) ≡ place_in (texts_of l.names) l.name
