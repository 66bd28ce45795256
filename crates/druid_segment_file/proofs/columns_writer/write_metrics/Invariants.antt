use Rattle.std.proofs.Common.{◌++◌, length, take}
use Rattle.std.specs.List.{flat_map, range_with_len}
use Rattle.druid_segment_file.specs.Written.{AppendsUpTo}
use Rattle.druid_segment_file.specs.ColumnBytes.{metric, numbers_of}
use Rattle.druid_segment_file.proofs.columns_writer.write_metrics.Given as goal

abbrev pub invariant-loop-place : goal.invariant-loop-place
invariant-loop-place g l =
    AppendsUpTo (g.W.Write.contents l.fn.writer) (g.W.Write.contents l.writer)
    (l.fn.gathered.items ++ flat_map (λ place. metric (numbers_of l.segment.rows place)) (take l.place (range_with_len 0 (length l.segment.fields.metrics)))) l.gathered.items
