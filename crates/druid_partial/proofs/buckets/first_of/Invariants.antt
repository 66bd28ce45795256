use Rattle.std.proofs.Common.{◌≡◌, take}
use Rattle.druid_partial.specs.First.{first_of}
use Rattle.druid_partial.proofs.buckets.first_of.Given as goal

abbrev pub invariant-loop-interval : goal.invariant-loop-interval
invariant-loop-interval l = l.first ≡ first_of (take l.interval-index l.intervals)
