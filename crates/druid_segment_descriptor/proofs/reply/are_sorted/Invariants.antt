use Rattle.std.specs.List.{AllAdjacentBelow}
use Rattle.druid_segment_descriptor.specs.Reply.{IsBefore}
use Rattle.druid_segment_descriptor.proofs.reply.are_sorted.Given as goal

abbrev pub invariant-loop-i : goal.invariant-loop-i
invariant-loop-i l = AllAdjacentBelow IsBefore l.segments l.i
