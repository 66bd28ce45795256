use Rattle.std.proofs.Common.{◌≡◌, ◌++◌, take}
use Rattle.std.specs.List.{flat_map}
use Rattle.druid_segment_file.specs.ColumnBytes.{mark}
use Rattle.druid_segment_file.proofs.columns_writer.append_marks.Given as goal

abbrev pub invariant-loop-row : goal.invariant-loop-row
invariant-loop-row l =
    l.out.items ≡ l.fn.out.items ++ flat_map mark (take l.row l.numbers)
