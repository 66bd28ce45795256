use Rattle.std.proofs.Common.{◌≡◌, length}
use Rattle.druid_partial_scan.proofs.texts.texts_over.Given as goal

abbrev pub invariant-loop-dimension : goal.invariant-loop-dimension
invariant-loop-dimension l = length l.lists.items ≡ l.dimension-index
