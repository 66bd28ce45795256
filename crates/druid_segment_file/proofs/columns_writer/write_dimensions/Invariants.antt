use Rattle.std.proofs.Common.{◌++◌, List, take}
use Rattle.std.specs.List.{flat_map}
use Rattle.druid_segment_file.specs.Written.{AppendsUpTo}
use Rattle.druid_segment_file.specs.ColumnBytes.{Coded, AreCoded, dimension}
use Rattle.druid_segment_file.proofs.columns_writer.write_dimensions.Given as goal

abbrev pub invariant-loop-place : goal.invariant-loop-place
invariant-loop-place g l =
    (dimensions : List Coded) → AreCoded l.segment dimensions
    → AppendsUpTo (g.W.Write.contents l.fn.writer) (g.W.Write.contents l.writer) (l.fn.gathered.items ++ flat_map dimension (take l.place dimensions)) l.gathered.items
