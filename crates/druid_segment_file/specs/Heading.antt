-- The spellings of a segment before its first row, and before its first dimension.
use Rattle.std.specs.Prelude.{ℕ, List, ◌++◌, length}
use Rattle.std.specs.Int.{w32, to_be_bytes}
use Rattle.std.specs.List.{flat_map}
use Rattle.druid_segment_rows.specs.Rows.{Row}
use Rattle.druid_segment_rows.specs.Segment.{Segment}
use Rattle.druid_segment_file.specs.ByteParts.{magic, instant, descriptor, names}
use Rattle.druid_segment_file.specs.ColumnBytes.{column_magic}

-- up to the number of rows, after what a file of the layout begins with
abbrev pub heading_after : List ℕ → Segment → List ℕ
heading_after first segment =
    first ++ descriptor segment.descriptor ++ names segment.fields.dimensions ++ names segment.fields.metrics
    ++ to_be_bytes w32 (length segment.rows)

abbrev pub heading : Segment → List ℕ
heading segment = heading_after magic segment

-- by columns: the instants stand before the first dimension
abbrev pub column_front : Segment → List ℕ
column_front segment = heading_after column_magic segment ++ flat_map (λ (row : Row). instant row.time) segment.rows
