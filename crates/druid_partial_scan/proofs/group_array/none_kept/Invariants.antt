use Rattle.std.proofs.Common.{◌≡◌, replicate, None}
use Rattle.druid_partial_scan.proofs.group_array.none_kept.Given as goal

abbrev pub invariant-loop : goal.invariant-loop
invariant-loop g l = l.cells.items ≡ replicate l.counter None
