use Rattle.std.proofs.Common.{◌≡◌, take}
use Rattle.druid_partial.specs.Joined.{join_numbers}
use Rattle.druid_partial.proofs.numbers.join_numbers.Given as goal

abbrev pub invariant-loop-place : goal.invariant-loop-place
invariant-loop-place l = l.mine ≡ join_numbers (take l.place l.kinds) l.initial.mine l.theirs
