use Rattle.std.proofs.Common.{◌≡◌, ◌++◌, take}
use Rattle.std.specs.List.{flat_map}
use Rattle.druid_segment_file.specs.ColumnBytes.{value}
use Rattle.druid_segment_file.proofs.columns_writer.append_values.Given as goal

abbrev pub invariant-loop-place : goal.invariant-loop-place
invariant-loop-place l =
    l.out.items ≡ l.fn.out.items ++ flat_map value (take l.place l.texts)
