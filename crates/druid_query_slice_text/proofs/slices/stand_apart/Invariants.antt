use Rattle.std.specs.List.{AllAdjacentBelow}
use Rattle.druid_query.specs.AskedOrder.{AreApart}
use Rattle.druid_query_slice_text.proofs.slices.stand_apart.Given as goal

abbrev pub invariant-loop-place : goal.invariant-loop-place
invariant-loop-place l = AllAdjacentBelow AreApart l.pieces l.place
