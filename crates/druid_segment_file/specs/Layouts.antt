-- The two layouts of a segment file.
use Rattle.std.specs.Prelude.{◌≡◌, ◌⊎◌, ℕ, List}
use Rattle.druid_segment_rows.specs.Segment.{Segment}
use Rattle.druid_segment_file.specs.ByteParts.{spelling}
use Rattle.druid_segment_file.specs.ColumnBytes.{IsColumnSpelling}

-- the bytes are the spelling of the segment in rows, or the one by columns
abbrev pub IsFileOf : List ℕ → Segment → Type 0
IsFileOf bytes segment = (bytes ≡ spelling segment) ⊎ IsColumnSpelling bytes segment
