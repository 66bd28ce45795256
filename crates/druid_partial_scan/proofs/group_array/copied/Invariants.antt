use Rattle.std.proofs.Common.{◌≡◌, ◌-◌, take, drop}
use Rattle.druid_partial_scan.proofs.group_array.copied.Given as goal

abbrev pub invariant-loop-place : goal.invariant-loop-place
invariant-loop-place l = l.copies.items ≡ take (l.place - l.from) (drop l.from l.numbers)
