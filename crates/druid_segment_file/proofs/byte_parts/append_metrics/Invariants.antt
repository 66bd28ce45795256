use Rattle.std.proofs.Common.{◌≡◌, ◌++◌, take}
use Rattle.std.specs.List.{flat_map}
use Rattle.druid_segment_rows.specs.Segment.{row_at}
use Rattle.druid_segment_file.specs.ByteParts.{number_value}
use Rattle.druid_segment_file.proofs.byte_parts.append_metrics.Given as goal

abbrev pub invariant-loop-metric : goal.invariant-loop-metric
invariant-loop-metric l =
    l.out.items ≡ l.fn.out.items ++ flat_map number_value (take l.metric (row_at l.segment l.place).metrics)
