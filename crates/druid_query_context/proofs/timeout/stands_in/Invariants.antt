-- The word stands in what is left, if it stands in the text.
use Rattle.std.proofs.Common.{◌≡◌, length}
use Rattle.druid_query_context.specs.Timeouts.{stands_in}
use Rattle.druid_query_context.proofs.timeout.stands_in.Given as goal

abbrev pub invariant-loop-after : goal.invariant-loop-after
invariant-loop-after l = stands_in l.word l.fn.text ≡ stands_in l.word l.rest

abbrev pub decreases-loop-after : goal.decreases-loop-after
decreases-loop-after l = length l.rest
