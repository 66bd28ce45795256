use Rattle.std.proofs.Common.{◌++◌, take}
use Rattle.std.specs.List.{flat_map}
use Rattle.druid_segment_file.specs.ByteParts.{row}
use Rattle.druid_segment_file.specs.Heading.{heading}
use Rattle.druid_segment_file.specs.Written.{AppendsUpTo}
use Rattle.druid_segment_file.proofs.writer.write_segment.Given as goal

abbrev pub invariant-loop-row : goal.invariant-loop-row
invariant-loop-row g l =
    AppendsUpTo (g.W.Write.contents l.fn.writer) (g.W.Write.contents l.writer) (heading l.segment ++ flat_map row (take l.row l.segment.rows)) l.gathered.items
