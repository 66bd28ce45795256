use Rattle.std.specs.List.{AllAdjacentBelow}
use Rattle.druid_partial_text.specs.Borrowed.{IsBefore}
use Rattle.druid_partial_text.proofs.partial_reader.is_ascending.Given as goal

abbrev pub invariant-loop-i : goal.invariant-loop-i
invariant-loop-i l = AllAdjacentBelow IsBefore l.groups l.i
