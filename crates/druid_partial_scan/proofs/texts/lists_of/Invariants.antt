use Rattle.std.proofs.Common.{◌≡◌, length}
use Rattle.druid_partial_scan.proofs.texts.lists_of.Given as goal

abbrev pub invariant-loop-list : goal.invariant-loop-list
invariant-loop-list l = length l.lists.items ≡ l.list-index
