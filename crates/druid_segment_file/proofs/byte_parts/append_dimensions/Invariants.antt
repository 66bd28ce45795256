use Rattle.std.proofs.Common.{◌≡◌, ◌++◌, take}
use Rattle.std.specs.List.{flat_map}
use Rattle.druid_segment_rows.specs.Segment.{row_at}
use Rattle.druid_segment_file.specs.ByteParts.{text_value}
use Rattle.druid_segment_file.proofs.byte_parts.append_dimensions.Given as goal

abbrev pub invariant-loop-dimension : goal.invariant-loop-dimension
invariant-loop-dimension l =
    l.out.items ≡ l.fn.out.items ++ flat_map text_value (take l.dimension (row_at l.segment l.place).dimensions)
