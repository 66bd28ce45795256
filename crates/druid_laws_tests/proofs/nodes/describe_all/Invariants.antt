use Rattle.std.specs.List.{AllWithin}
use Rattle.druid_segment_descriptor.specs.Described.{IsDescribed}
use Rattle.druid_laws_tests.proofs.nodes.describe_all.Given as goal

abbrev pub invariant-loop-i : goal.invariant-loop-i
invariant-loop-i l = AllWithin IsDescribed l.segments 0 l.i
